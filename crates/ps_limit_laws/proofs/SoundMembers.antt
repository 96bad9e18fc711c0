-- A member that is read is one that a session of its domain may have.
use Rattle.std.proofs.Common.{◌≡◌, ℕ, suc, ◌-◌, ◌<◌, ◌≤◌, nat_lt, ◌==◌, Bool, true, false, not, ◌&&◌, if◌then◌else◌, List, [], ◌∷◌, ◌++◌, length, All, slice_get, Option, None, Some, IfSome, IfOk, Result, Ok, Err, refl, sym, ap, subst, arith}
use Rattle.std.specs.Option.{IsSomeAnd, option_map_or}
use Rattle.std.proofs.lemmas.Bool.{and_parts, eqb-true, ltb-true}
use Rattle.std.proofs.lemmas.List.Elements.{All-nil, All-cons, All-append}
use Rattle.ps_world.specs.Knowledge.{action_of}
use Rattle.ps_world.specs.Names.{Table}
use Rattle.ps_world.specs.declared.actions.ActionDef.{ActionDef}
use Rattle.ps_world.specs.declared.conditions.Cond.{Cond}
use Rattle.ps_world.specs.declared.domains.Domain.{Domain}
use Rattle.ps_world.specs.declared.edits.Edit.{Edit as Change}
use Rattle.ps_world.specs.declared.names.Name.{Name}
use Rattle.ps_machine.specs.declared.members.Member.{Member}
use Rattle.ps_machine.specs.declared.members.Observer.{Observer}
use Rattle.ps_machine.specs.declared.members.Performer.{Performer}
use Rattle.ps_machine.specs.declared.members.Unit.{Unit as Task}
use Rattle.ps_machine.specs.declared.members.Unit.TheVariants as unit
use Rattle.ps_rules.specs.Sound.{IsScriptCond, IsSoundItem, IsSoundJob, IsSoundObserver, IsSoundUnit, ends_once, is_end}
use Rattle.ps_text.specs.ScriptLines.{script_lines}
use Rattle.ps_members.specs.Forms.{finishes, is_finished}
use Rattle.ps_members.specs.Members.{AreLines, Leads, at_end}
use Rattle.ps_members.specs.Members.AreLines.{none_left, fault, good}
use Rattle.ps_members.specs.Members.Leads.{nothing, bad, said}
use Rattle.ps_members.specs.Moves.{acting, from_acting, from_beginning, from_named, from_observing, from_ready, from_waiting, from_working, last_job, moved, most_jobs, most_units, next_job, ready, with_edit, with_item, with_unit}
use Rattle.ps_members.specs.declared.places.Place.{Place}
use Rattle.ps_members.specs.declared.places.Place.TheVariants.{Beginning, Named, Acting, Ready, Working, Observing, Waiting, Ended}
use Rattle.ps_members.specs.declared.places.Said.{Said}
use Rattle.ps_members.specs.declared.places.Said.TheVariants as says
use Rattle.ps_members.specs.declared.refusals.ScriptRefusal.{ScriptRefusal}
use Rattle.ps_members.specs.declared.refusals.ScriptRefusal.TheVariants.{Arity, NoFinish, Limit}
use Rattle.ps_members.proofs.WholeMembers.{one_more}
use Rattle.ps_limit_laws.proofs.SoundUnits.{HasRoom, IsSoundHere, IsSoundSaid, said_sound}
use Rattle.ps_limit_laws.specs.Sound.{IsSoundMember, MembersAreSound}

-- ---- the units of a job

-- no unit but the last ends the job
abbrev ends_last : List Task → Bool
ends_last [] = true
ends_last (u ∷ []) = true
ends_last (u ∷ v ∷ units) = not (is_end u) && ends_last (v ∷ units)

same_end : (u : Task) → finishes u ≡ is_end u
same_end (unit.Finish ok) = refl
same_end _ = refl

finished_later : (u v : Task) (units : List Task) → is_finished (u ∷ v ∷ units) ≡ is_finished (v ∷ units)
finished_later u v units =
    let one : length (u ∷ v ∷ units) - 1 ≡ suc (length (v ∷ units) - 1) = omega arith in
    ap (λ k. option_map_or finishes (slice_get (u ∷ v ∷ units) k) false) one

ended : (units : List Task) → ends_last units ≡ true → is_finished units ≡ true → ends_once units ≡ true
ended [] last e = absurd (cc)
ended (u ∷ []) last e = subst (λ b. b ≡ true) (same_end u) e
ended (u ∷ v ∷ units) last e =
    let parts = and_parts (not (is_end u)) (ends_last (v ∷ units)) last in
    let later : is_finished (v ∷ units) ≡ true = subst (λ b. b ≡ true) (finished_later u v units) e in
    rw (parts.0, ended (v ∷ units) parts.1 later) refl

no_end : (u : Task) → finishes u ≡ false → not (is_end u) ≡ true
no_end (unit.Finish ok) e = absurd (cc)
no_end _ e = refl

one_more_last : (units : List Task) (u : Task) → ends_last units ≡ true → is_finished units ≡ false → ends_last (units ++ u ∷ []) ≡ true
one_more_last [] u last e = refl
one_more_last (v ∷ []) u last e = rw (no_end v e) refl
one_more_last (v ∷ w ∷ units) u last e =
    let parts = and_parts (not (is_end v)) (ends_last (w ∷ units)) last in
    let later : is_finished (w ∷ units) ≡ false = subst (λ b. b ≡ false) (finished_later v w units) e in
    rw (parts.0, one_more_last (w ∷ units) u parts.1 later) refl

-- ---- what is read so far

-- the performer's action is of the domain, with as many parameters as its pattern has places
abbrev HasAction : Domain → Performer → Type 0
HasAction d p = IsSomeAnd (action_of d p.action) (λ a. length p.pattern ≡ length a.params)

-- a performer in a job
record IsWorking (d : Domain) (p : Performer) (units : List Task) : Type 0 where
  action : HasAction d p
  few : length p.jobs < 64
  jobs : All IsSoundJob p.jobs
  last : ends_last units ≡ true
  short : length units ≤ 1000
  each : All IsSoundUnit units

-- a member is sound as far as it was read
abbrev IsSoundSoFar : Domain → Place → Type 0
IsSoundSoFar d (Acting name action arity) = IsSomeAnd (action_of d action) (λ a. arity ≡ length a.params)
IsSoundSoFar d (Ready p) = HasAction d p × (p.jobs ≡ [])
IsSoundSoFar d (Working p units) = IsWorking d p units
IsSoundSoFar d (Observing o) = IsSoundObserver o
IsSoundSoFar d (Waiting o c) = IsSoundObserver o × IsScriptCond c
IsSoundSoFar d (Ended m) = IsSoundMember d m
IsSoundSoFar d _ = Unit {0}

-- the same of the place that a line leads to, if it leads to one
abbrev LeadsSound : Domain → Result Place ScriptRefusal → Type 0
LeadsSound d r = IfOk r (IsSoundSoFar d)

-- where a test has to hold
checked : (d : Domain) (b : Bool) (r : Result Place ScriptRefusal) (why : ScriptRefusal) → (b ≡ true → LeadsSound d r) → LeadsSound d (if b then r else Err why)
checked d true r why h = h refl
checked d false r why h = tt

and_one : {X : Type 0} (P : X → Type 0) (xs : List X) (x : X) → All P xs → P x → All P (xs ++ x ∷ [])
and_one P xs x all here = All-append P xs (x ∷ []) all (All-cons P x [] here (All-nil P))

-- ---- each move

acting_sound : (d : Domain) (n : ℕ) (name action : Name) (found : Option ActionDef) → action_of d action ≡ found → LeadsSound d (acting n name action found)
acting_sound d n name action None e = tt
acting_sound d n name action (Some declared) e = subst (λ o. IsSomeAnd o (λ a. length declared.params ≡ length a.params)) (sym e) refl

ready_sound : (d : Domain) (n : ℕ) (name action : Name) (arity : ℕ) (places : List (Option Name)) → IsSoundSoFar d (Acting name action arity) → LeadsSound d (ready n name action arity places)
ready_sound d n name action arity places so =
    checked d (length places == arity) _ (Arity n) (λ e. (subst (λ k. IsSomeAnd (action_of d action) (λ a. k ≡ length a.params)) (sym (eqb-true (length places) arity e)) so, refl))

job_sound : (d : Domain) (p : Performer) (units : List Task) → IsWorking d p units → is_finished units ≡ true → IsSoundJob units
job_sound d p units so e = record { short = so.short; ended = ended units so.last e; each = so.each }

next_sound : (d : Domain) (n : ℕ) (p : Performer) (units : List Task) → IsWorking d p units → LeadsSound d (next_job n p units)
next_sound d n p units so =
    checked d (is_finished units) _ (NoFinish n) (λ e. checked d (nat_lt (length (p.jobs ++ units ∷ [])) most_jobs) _ (Limit n) (λ f. record {
      action = so.action;
      few = ltb-true _ most_jobs f;
      jobs = and_one IsSoundJob p.jobs units so.jobs (job_sound d p units so e);
      last = refl;
      short = omega arith;
      each = All-nil IsSoundUnit;
    }))

last_sound : (d : Domain) (n : ℕ) (p : Performer) (units : List Task) → IsWorking d p units → LeadsSound d (last_job n p units)
last_sound d n p units so =
    let more = one_more p.jobs units in
    let few = so.few in
    checked d (is_finished units) _ (NoFinish n) (λ e. record {
      action = so.action;
      some_job = omega (arith, more);
      few_jobs = omega (arith, more, few);
      jobs = and_one IsSoundJob p.jobs units so.jobs (job_sound d p units so e);
    })

unit_sound : (d : Domain) (n : ℕ) (p : Performer) (units : List Task) (u : Task) → IsWorking d p units → is_finished units ≡ false → IsSoundUnit u → LeadsSound d (with_unit n p units u)
unit_sound d n p units u so under sound =
    let more = one_more units u in
    checked d (nat_lt (length units) most_units) _ (Limit n) (λ e. let few = ltb-true (length units) most_units e in record {
      action = so.action;
      few = so.few;
      jobs = so.jobs;
      last = one_more_last units u so.last under;
      short = omega (arith, more, few);
      each = and_one IsSoundUnit units u so.each sound;
    })

item_sound : (d : Domain) (n : ℕ) (o : Observer) (when : Option Cond) (e : Change) → IsSoundObserver o → IsSoundItem (when, e) → LeadsSound d (with_item n o when e)
item_sound d n o when e so sound =
    let more = one_more o.units (when, e) in
    checked d (nat_lt (length o.units) most_units) _ (Limit n) (λ f. let few = ltb-true (length o.units) most_units f in record {
      short = omega (arith, more, few);
      units = and_one IsSoundItem o.units (when, e) so.units sound;
    })

edit_sound : (d : Domain) (n : ℕ) (o : Observer) (when : Option Cond) (u : Task) → IsSoundObserver o → IfSome when IsScriptCond → IsSoundUnit u → LeadsSound d (with_edit n o when u)
edit_sound d n o when (unit.Edit e) so c sound = item_sound d n o when e so (c, sound)
edit_sound d n o when _ so c sound = tt

-- before its first job a performer has no job
first_job : (d : Domain) (p : Performer) → HasAction d p → p.jobs ≡ [] → IsWorking d p []
first_job d p action e = record {
  action = action;
  few = rw e (omega arith);
  jobs = subst (All IsSoundJob) (sym e) (All-nil IsSoundJob);
  last = refl;
  short = omega arith;
  each = All-nil IsSoundUnit;
}

no_item : (name : Name) → IsSoundObserver (record { name = name; units = [] })
no_item name = record { short = omega arith; units = All-nil IsSoundItem }

-- ---- by where the reader stands

from_working_sound : (d : Domain) (n : ℕ) (p : Performer) (units : List Task) (s : Said) → IsWorking d p units → IsSoundSaid s → HasRoom (Working p units) s → LeadsSound d (from_working n p units s)
from_working_sound d n p units says.Job so sound room = next_sound d n p units so
from_working_sound d n p units says.End so sound room = last_sound d n p units so
from_working_sound d n p units (says.Unit u) so sound room = unit_sound d n p units u so room sound
from_working_sound d n p units _ so sound room = tt

from_observing_sound : (d : Domain) (n : ℕ) (o : Observer) (s : Said) → IsSoundObserver o → IsSoundSaid s → LeadsSound d (from_observing n o s)
from_observing_sound d n o (says.When c) so sound = (so, sound)
from_observing_sound d n o (says.Unit u) so sound = edit_sound d n o None u so tt sound
from_observing_sound d n o says.End so sound = so
from_observing_sound d n o _ so sound = tt

from_waiting_sound : (d : Domain) (n : ℕ) (o : Observer) (c : Cond) (s : Said) → IsSoundObserver o → IsScriptCond c → IsSoundSaid s → LeadsSound d (from_waiting n o c s)
from_waiting_sound d n o c (says.Unit u) so when sound = edit_sound d n o (Some c) u so when sound
from_waiting_sound d n o c _ so when sound = tt

from_ready_sound : (d : Domain) (n : ℕ) (p : Performer) (s : Said) → HasAction d p → p.jobs ≡ [] → LeadsSound d (from_ready n p s)
from_ready_sound d n p says.Job action e = first_job d p action e
from_ready_sound d n p _ action e = tt

from_acting_sound : (d : Domain) (n : ℕ) (name action : Name) (arity : ℕ) (s : Said) → IsSoundSoFar d (Acting name action arity) → LeadsSound d (from_acting n name action arity s)
from_acting_sound d n name action arity (says.Args places) so = ready_sound d n name action arity places so
from_acting_sound d n name action arity _ so = tt

from_named_sound : (d : Domain) (n : ℕ) (name : Name) (s : Said) → LeadsSound d (from_named d n name s)
from_named_sound d n name (says.Action action) = acting_sound d n name action (action_of d action) refl
from_named_sound d n name _ = tt

from_beginning_sound : (d : Domain) (n : ℕ) (s : Said) → LeadsSound d (from_beginning n s)
from_beginning_sound d n (says.Performer name) = tt
from_beginning_sound d n (says.Observer name) = no_item name
from_beginning_sound d n _ = tt

moved_sound : (d : Domain) (n : ℕ) (at : Place) (s : Said) → IsSoundSoFar d at → IsSoundHere at s → LeadsSound d (moved d n at s)
moved_sound d n Beginning s so here = from_beginning_sound d n s
moved_sound d n (Named name) s so here = from_named_sound d n name s
moved_sound d n (Acting name action arity) s so here = from_acting_sound d n name action arity s so
moved_sound d n (Ready p) s so here = from_ready_sound d n p s so.0 so.1
moved_sound d n (Working p units) s so here = from_working_sound d n p units s so here.0 here.1
moved_sound d n (Observing o) s so here = from_observing_sound d n o s so here.0
moved_sound d n (Waiting o c) s so here = from_waiting_sound d n o c s so.0 so.1 here.0
moved_sound d n (Ended m) s so here = tt

-- ---- lines

leads_sound : (d : Domain) (n : ℕ) (at : Place) (table after : Table) (line : List ℕ) (r : Result Place ScriptRefusal) → Leads d n at table line r after → IsSoundSoFar d at → LeadsSound d r
leads_sound d n at table _ line _ (nothing e) so = so
leads_sound d n at table _ line _ (bad c a e x) so = tt
leads_sound d n at table _ line _ (said s a e x) so = moved_sound d n at s so (said_sound at table line (Ok s) a x)

end_sound : (d : Domain) (n : ℕ) (at : Place) → IsSoundSoFar d at → IfOk (at_end n at) (IsSoundMember d)
end_sound d n (Ended m) so = so
end_sound d n _ so = tt

lines_sound : (d : Domain) (n : ℕ) (at : Place) (table after : Table) (lines : List (List ℕ)) (r : Result Member ScriptRefusal) → AreLines d n at table lines r after → IsSoundSoFar d at → IfOk r (IsSoundMember d)
lines_sound d _ _ _ _ _ _ (none_left n at table) so = end_sound d n at so
lines_sound d _ _ _ _ _ _ (fault n at table line lines why a x) so = tt
lines_sound d _ _ _ _ _ _ (good n at next table m a line lines r x z) so =
    lines_sound d (suc n) next m a lines r z (leads_sound d n at table m line (Ok next) x so)

pub members_are_sound : MembersAreSound
members_are_sound d table bytes m after is = lines_sound d 1 Beginning table after (script_lines bytes) (Ok m) is tt
