-- A member that is read is whole.
use Rattle.std.proofs.Common.{◌≡◌, ℕ, suc, ◌+◌, ◌<◌, ◌≤◌, nat_lt, ◌==◌, Bool, true, false, if◌then◌else◌, List, [], ◌∷◌, ◌++◌, length, All, Option, None, Some, Result, Ok, Err, refl, sym, subst, arith}
use Rattle.std.proofs.lemmas.List.{length-append}
use Rattle.std.proofs.lemmas.List.Elements.{All-nil, All-cons, All-append}
use Rattle.std.proofs.lemmas.Bool.{ltb-true}
use Rattle.ps_world.specs.Knowledge.{action_of}
use Rattle.ps_world.specs.Names.{Table}
use Rattle.ps_world.specs.declared.actions.ActionDef.{ActionDef}
use Rattle.ps_world.specs.declared.conditions.Cond.{Cond}
use Rattle.ps_world.specs.declared.domains.Domain.{Domain}
use Rattle.ps_world.specs.declared.edits.Edit.{Edit as Change}
use Rattle.ps_world.specs.declared.names.Name.{Name}
use Rattle.ps_machine.specs.declared.members.Member.{Member}
use Rattle.ps_machine.specs.declared.members.Observer.{Observer}
use Rattle.ps_machine.specs.declared.members.Performer.{Performer}
use Rattle.ps_machine.specs.declared.members.Unit.{Unit as Task}
use Rattle.ps_machine.specs.declared.members.Unit.TheVariants as unit
use Rattle.ps_text.specs.ScriptLines.{script_lines}
use Rattle.ps_members.specs.Forms.{is_finished}
use Rattle.ps_members.specs.Laws.{IsWholeMember, IsWholeJob, MembersAreWhole}
use Rattle.ps_members.specs.Members.{AreLines, Leads, at_end}
use Rattle.ps_members.specs.Members.AreLines.{none_left, fault, good}
use Rattle.ps_members.specs.Members.Leads.{nothing, bad, said}
use Rattle.ps_members.specs.Moves.{acting, from_acting, from_beginning, from_named, from_observing, from_ready, from_waiting, from_working, last_job, moved, most_jobs, most_units, next_job, ready, with_edit, with_item, with_unit}
use Rattle.ps_members.specs.declared.places.Place.{Place}
use Rattle.ps_members.specs.declared.places.Place.TheVariants.{Beginning, Named, Acting, Ready, Working, Observing, Waiting, Ended}
use Rattle.ps_members.specs.declared.places.Said.{Said}
use Rattle.ps_members.specs.declared.places.Said.TheVariants as says
use Rattle.ps_members.specs.declared.refusals.ScriptRefusal.{ScriptRefusal}
use Rattle.ps_members.specs.declared.refusals.ScriptRefusal.TheVariants.{Arity, NoFinish, Limit}

-- a member is whole as far as it was read
abbrev IsWholeSoFar : Place → Type 0
IsWholeSoFar (Ready p) = p.jobs ≡ []
IsWholeSoFar (Working p units) = (length p.jobs < most_jobs) × All IsWholeJob p.jobs × (length units ≤ most_units)
IsWholeSoFar (Observing o) = length o.units ≤ most_units
IsWholeSoFar (Waiting o c) = length o.units ≤ most_units
IsWholeSoFar (Ended m) = IsWholeMember m
IsWholeSoFar _ = Unit {0}

-- the same of the place that a line leads to, if it leads to one
abbrev LeadsWhole : Result Place ScriptRefusal → Type 0
LeadsWhole (Ok at) = IsWholeSoFar at
LeadsWhole (Err why) = Unit {0}

acting_whole : (n : ℕ) (name action : Name) (found : Option ActionDef) → LeadsWhole (acting n name action found)
acting_whole n name action None = tt
acting_whole n name action (Some declared) = tt

-- where a test has to hold
checked : (b : Bool) (r : Result Place ScriptRefusal) (why : ScriptRefusal) → (b ≡ true → LeadsWhole r) → LeadsWhole (if b then r else Err why)
checked true r why h = h refl
checked false r why h = tt

ready_whole : (n : ℕ) (name action : Name) (arity : ℕ) (places : List (Option Name)) → LeadsWhole (ready n name action arity places)
ready_whole n name action arity places = checked (length places == arity) _ (Arity n) (λ e. refl)

pub one_more : {X : Type 0} (xs : List X) (x : X) → length (xs ++ x ∷ []) ≡ length xs + 1
one_more xs x = length-append xs (x ∷ [])

jobs_whole : (p : Performer) (units : List Task) → All IsWholeJob p.jobs → is_finished units ≡ true → length units ≤ most_units → All IsWholeJob (p.jobs ++ units ∷ [])
jobs_whole p units jobs e few = All-append IsWholeJob p.jobs (units ∷ []) jobs (All-cons IsWholeJob units [] (e, few) (All-nil IsWholeJob))

next_whole : (n : ℕ) (p : Performer) (units : List Task) → IsWholeSoFar (Working p units) → LeadsWhole (next_job n p units)
next_whole n p units so =
    checked (is_finished units) _ (NoFinish n) (λ e. checked (nat_lt (length (p.jobs ++ units ∷ [])) most_jobs) _ (Limit n) (λ f. (ltb-true _ most_jobs f, jobs_whole p units so.1 e so.2, omega arith)))

last_whole : (n : ℕ) (p : Performer) (units : List Task) → IsWholeSoFar (Working p units) → LeadsWhole (last_job n p units)
last_whole n p units so =
    let more = one_more p.jobs units in
    let few = so.0 in
    checked (is_finished units) _ (NoFinish n) (λ e. record { some = omega (arith, more); few = omega (arith, more, few); jobs = jobs_whole p units so.1 e so.2 })

unit_whole : (n : ℕ) (p : Performer) (units : List Task) (u : Task) → IsWholeSoFar (Working p units) → LeadsWhole (with_unit n p units u)
unit_whole n p units u so =
    checked (nat_lt (length units) most_units) _ (Limit n) (λ e. let more = one_more units u in let few = ltb-true (length units) most_units e in (so.0, so.1, omega (arith, more, few)))

item_whole : (n : ℕ) (o : Observer) (when : Option Cond) (e : Change) → LeadsWhole (with_item n o when e)
item_whole n o when e =
    checked (nat_lt (length o.units) most_units) _ (Limit n) (λ f. let more = one_more o.units (when, e) in let few = ltb-true (length o.units) most_units f in omega (arith, more, few))

edit_whole : (n : ℕ) (o : Observer) (when : Option Cond) (u : Task) → LeadsWhole (with_edit n o when u)
edit_whole n o when (unit.Edit e) = item_whole n o when e
edit_whole n o when _ = tt

-- before its first job a performer has no job
first_job : (p : Performer) → p.jobs ≡ [] → IsWholeSoFar (Working p [])
first_job p e =
    (rw e (omega arith), subst (All IsWholeJob) (sym e) (All-nil IsWholeJob), omega arith)

-- ---- by where the reader stands

from_working_whole : (n : ℕ) (p : Performer) (units : List Task) (s : Said) → IsWholeSoFar (Working p units) → LeadsWhole (from_working n p units s)
from_working_whole n p units says.Job so = next_whole n p units so
from_working_whole n p units says.End so = last_whole n p units so
from_working_whole n p units (says.Unit u) so = unit_whole n p units u so
from_working_whole n p units _ so = tt

from_observing_whole : (n : ℕ) (o : Observer) (s : Said) → IsWholeSoFar (Observing o) → LeadsWhole (from_observing n o s)
from_observing_whole n o (says.When c) so = so
from_observing_whole n o (says.Unit u) so = edit_whole n o None u
from_observing_whole n o says.End so = so
from_observing_whole n o _ so = tt

from_waiting_whole : (n : ℕ) (o : Observer) (c : Cond) (s : Said) → LeadsWhole (from_waiting n o c s)
from_waiting_whole n o c (says.Unit u) = edit_whole n o (Some c) u
from_waiting_whole n o c _ = tt

from_ready_whole : (n : ℕ) (p : Performer) (s : Said) → p.jobs ≡ [] → LeadsWhole (from_ready n p s)
from_ready_whole n p says.Job e = first_job p e
from_ready_whole n p _ e = tt

from_acting_whole : (n : ℕ) (name action : Name) (arity : ℕ) (s : Said) → LeadsWhole (from_acting n name action arity s)
from_acting_whole n name action arity (says.Args places) = ready_whole n name action arity places
from_acting_whole n name action arity _ = tt

from_named_whole : (d : Domain) (n : ℕ) (name : Name) (s : Said) → LeadsWhole (from_named d n name s)
from_named_whole d n name (says.Action action) = acting_whole n name action (action_of d action)
from_named_whole d n name _ = tt

none_above : (n : ℕ) → 0 ≤ n
none_above n = omega arith

from_beginning_whole : (n : ℕ) (s : Said) → LeadsWhole (from_beginning n s)
from_beginning_whole n (says.Performer name) = tt
from_beginning_whole n (says.Observer name) = none_above most_units
from_beginning_whole n _ = tt

moved_whole : (d : Domain) (n : ℕ) (at : Place) (s : Said) → IsWholeSoFar at → LeadsWhole (moved d n at s)
moved_whole d n Beginning s so = from_beginning_whole n s
moved_whole d n (Named name) s so = from_named_whole d n name s
moved_whole d n (Acting name action arity) s so = from_acting_whole n name action arity s
moved_whole d n (Ready p) s so = from_ready_whole n p s so
moved_whole d n (Working p units) s so = from_working_whole n p units s so
moved_whole d n (Observing o) s so = from_observing_whole n o s so
moved_whole d n (Waiting o c) s so = from_waiting_whole n o c s
moved_whole d n (Ended m) s so = tt

-- ---- lines

leads_whole : (d : Domain) (n : ℕ) (at : Place) (table after : Table) (line : List ℕ) (r : Result Place ScriptRefusal) → Leads d n at table line r after → IsWholeSoFar at → LeadsWhole r
leads_whole d n at table _ line _ (nothing e) so = so
leads_whole d n at table _ line _ (bad c a e x) so = tt
leads_whole d n at table _ line _ (said s a e x) so = moved_whole d n at s so

-- the same of a member
abbrev ReadsWhole : Result Member ScriptRefusal → Type 0
ReadsWhole (Ok m) = IsWholeMember m
ReadsWhole (Err why) = Unit {0}

end_whole : (n : ℕ) (at : Place) → IsWholeSoFar at → ReadsWhole (at_end n at)
end_whole n (Ended m) so = so
end_whole n _ so = tt

lines_whole : (d : Domain) (n : ℕ) (at : Place) (table after : Table) (lines : List (List ℕ)) (r : Result Member ScriptRefusal) → AreLines d n at table lines r after → IsWholeSoFar at → ReadsWhole r
lines_whole d _ _ _ _ _ _ (none_left n at table) so = end_whole n at so
lines_whole d _ _ _ _ _ _ (fault n at table line lines why a x) so = tt
lines_whole d _ _ _ _ _ _ (good n at next table m a line lines r x z) so =
    lines_whole d (suc n) next m a lines r z (leads_whole d n at table m line (Ok next) x so)

pub members_are_whole : MembersAreWhole
members_are_whole d table bytes m after is = lines_whole d 1 Beginning table after (script_lines bytes) (Ok m) is tt
