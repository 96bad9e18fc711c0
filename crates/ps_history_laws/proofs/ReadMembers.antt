-- What a member that is read says can be said.
use Rattle.std.proofs.Common.{ℕ, suc, nat_lt, ◌==◌, Bool, true, false, if◌then◌else◌, List, [], ◌∷◌, ◌++◌, length, All, Option, None, Some, IfOk, Result, Ok, Err}
use Rattle.std.proofs.lemmas.List.Elements.{All-nil, All-push, All-weaker}
use Rattle.ps_world.specs.Knowledge.{action_of}
use Rattle.ps_world.specs.Names.{Table}
use Rattle.ps_world.specs.Tables.{IsOf}
use Rattle.ps_world.specs.declared.actions.ActionDef.{ActionDef}
use Rattle.ps_world.specs.declared.conditions.Cond.{Cond}
use Rattle.ps_world.specs.declared.domains.Domain.{Domain}
use Rattle.ps_world.specs.declared.names.Name.{Name}
use Rattle.ps_machine.specs.declared.members.Member.{Member}
use Rattle.ps_machine.specs.declared.members.Observer.{Observer}
use Rattle.ps_machine.specs.declared.members.Performer.{Performer}
use Rattle.ps_machine.specs.declared.members.Unit.{Unit as Task}
use Rattle.ps_machine.specs.declared.members.Unit.TheVariants as unit
use Rattle.ps_text.specs.Names.{AreNames, Keeps}
use Rattle.ps_text.specs.ScriptLines.{script_lines}
use Rattle.ps_script_laws.specs.Sayable.{IsEditOf}
use Rattle.ps_members.specs.Forms.{is_finished}
use Rattle.ps_members.specs.Members.{AreLines, Leads, at_end}
use Rattle.ps_members.specs.Members.AreLines.{none_left, fault as faulty, good as good_line}
use Rattle.ps_members.specs.Members.Leads.{nothing, bad, said as saying}
use Rattle.ps_members.specs.Moves.{acting, from_acting, from_beginning, from_named, from_observing, from_ready, from_waiting, from_working, moved, most_jobs, most_units, with_edit, with_job}
use Rattle.ps_members.specs.declared.places.Place.{Place}
use Rattle.ps_members.specs.declared.places.Place.TheVariants.{Beginning, Named, Acting, Ready, Working, Observing, Waiting, Ended}
use Rattle.ps_members.specs.declared.places.Said.{Said}
use Rattle.ps_members.specs.declared.places.Said.TheVariants as says
use Rattle.ps_members.specs.declared.refusals.ScriptRefusal.{ScriptRefusal}
use Rattle.ps_members.specs.declared.refusals.ScriptRefusal.TheVariants.{Arity, NoFinish, Limit}
use Rattle.ps_history_laws.specs.Inputs.{IsSayableMember, IsSayableObserver, IsSayablePerformer, IsSayableUnit}
use Rattle.ps_history_laws.specs.Laws.{MembersAreSayable}
use Rattle.ps_history_laws.proofs.Kept.{name-in, observer-in, performer-in, member-in, unit-in}
use Rattle.ps_history_laws.proofs.ReadUnits.{Follows, IsSayableSaid, line_said, said_follows, same_table}

-- ---- what is read so far

-- a member can be said as far as it was read
abbrev IsSayableSoFar : Table → Place → Type 0
IsSayableSoFar after (Named name) = IsOf (length after) name
IsSayableSoFar after (Acting name action arity) = IsOf (length after) name
IsSayableSoFar after (Ready p) = IsSayablePerformer after p
IsSayableSoFar after (Working p units) = IsSayablePerformer after p × All (IsSayableUnit after) units
IsSayableSoFar after (Observing o) = IsSayableObserver after o
IsSayableSoFar after (Waiting o c) = IsSayableObserver after o
IsSayableSoFar after (Ended m) = IsSayableMember after m
IsSayableSoFar after Beginning = Unit {0}

so_far_in : (table after : Table) → Keeps table after → (at : Place) → IsSayableSoFar table at → IsSayableSoFar after at
so_far_in table after keeps (Named name) h = name-in table after keeps name h
so_far_in table after keeps (Acting name action arity) h = name-in table after keeps name h
so_far_in table after keeps (Ready p) h = performer-in table after keeps p h
so_far_in table after keeps (Working p units) h =
    (performer-in table after keeps p h.0, All-weaker (IsSayableUnit table) (IsSayableUnit after) (unit-in table after keeps) units h.1)
so_far_in table after keeps (Observing o) h = observer-in table after keeps o h
so_far_in table after keeps (Waiting o c) h = observer-in table after keeps o h
so_far_in table after keeps (Ended m) h = member-in table after keeps m h
so_far_in table after keeps Beginning h = tt

module _ (after : Table) where
  -- the same of the place that a line leads to, if it leads to one
  abbrev LeadsSayable : Result Place ScriptRefusal → Type 0
  LeadsSayable r = IfOk r (IsSayableSoFar after)

  checked : (b : Bool) (r : Result Place ScriptRefusal) (why : ScriptRefusal) → LeadsSayable r → LeadsSayable (if b then r else Err why)
  checked true r why h = h
  checked false r why h = tt

  acting_said : (n : ℕ) (name action : Name) (found : Option ActionDef) → IsOf (length after) name → LeadsSayable (acting n name action found)
  acting_said n name action None h = tt
  acting_said n name action (Some declared) h = h

  with_job_said : (p : Performer) (units : List Task) → IsSayablePerformer after p → All (IsSayableUnit after) units → IsSayablePerformer after (with_job p units)
  with_job_said p units h all = record { name = h.name; jobs = All-push (All (IsSayableUnit after)) p.jobs units h.jobs all }

  item_said : (n : ℕ) (o : Observer) (when : Option Cond) (u : Task) → IsSayableObserver after o → IsSayableUnit after u → LeadsSayable (with_edit n o when u)
  item_said n o when (unit.Edit e) h said =
      checked (nat_lt (length o.units) most_units) (Ok (Observing (record o { units = o.units ++ (when, e) ∷ [] }))) (Limit n)
      (record { name = h.name; units = All-push (λ item. IsEditOf after item.1) o.units (when, e) h.units said })
  item_said n o when _ h said = tt

  working_said : (n : ℕ) (p : Performer) (units : List Task) (s : Said) → IsSayableSoFar after (Working p units) → IsSayableSaid after s → LeadsSayable (from_working n p units s)
  working_said n p units says.Job h said =
      checked (is_finished units) (if nat_lt (length (with_job p units).jobs) most_jobs then Ok (Working (with_job p units) []) else Err (Limit n)) (NoFinish n)
      (checked (nat_lt (length (with_job p units).jobs) most_jobs) (Ok (Working (with_job p units) [])) (Limit n) (with_job_said p units h.0 h.1, All-nil (IsSayableUnit after)))
  working_said n p units says.End h said = checked (is_finished units) (Ok (Ended _)) (NoFinish n) (with_job_said p units h.0 h.1)
  working_said n p units (says.Unit u) h said =
      checked (nat_lt (length units) most_units) (Ok (Working p (units ++ u ∷ []))) (Limit n) (h.0, All-push (IsSayableUnit after) units u h.1 said)
  working_said n p units _ h said = tt

  observing_said : (n : ℕ) (o : Observer) (s : Said) → IsSayableObserver after o → IsSayableSaid after s → LeadsSayable (from_observing n o s)
  observing_said n o (says.When c) h said = h
  observing_said n o (says.Unit u) h said = item_said n o None u h said
  observing_said n o says.End h said = h
  observing_said n o _ h said = tt

  waiting_said : (n : ℕ) (o : Observer) (c : Cond) (s : Said) → IsSayableObserver after o → IsSayableSaid after s → LeadsSayable (from_waiting n o c s)
  waiting_said n o c (says.Unit u) h said = item_said n o (Some c) u h said
  waiting_said n o c _ h said = tt

  ready_said : (n : ℕ) (p : Performer) (s : Said) → IsSayablePerformer after p → LeadsSayable (from_ready n p s)
  ready_said n p says.Job h = (h, All-nil (IsSayableUnit after))
  ready_said n p _ h = tt

  acting_leads : (n : ℕ) (name action : Name) (arity : ℕ) (s : Said) → IsOf (length after) name → LeadsSayable (from_acting n name action arity s)
  acting_leads n name action arity (says.Args places) h =
      checked (length places == arity) (Ok (Ready (record { name = name; action = action; pattern = places; jobs = [] }))) (Arity n) (record { name = h; jobs = All-nil (All (IsSayableUnit after)) })
  acting_leads n name action arity _ h = tt

  named_leads : (d : Domain) (n : ℕ) (name : Name) (s : Said) → IsOf (length after) name → LeadsSayable (from_named d n name s)
  named_leads d n name (says.Action action) h = acting_said n name action (action_of d action) h
  named_leads d n name _ h = tt

  beginning_leads : (n : ℕ) (s : Said) → IsSayableSaid after s → LeadsSayable (from_beginning n s)
  beginning_leads n (says.Performer name) said = said
  beginning_leads n (says.Observer name) said = record { name = said; units = All-nil (λ item. IsEditOf after item.1) }
  beginning_leads n _ said = tt

  moved_said : (d : Domain) (n : ℕ) (at : Place) (s : Said) → IsSayableSoFar after at → IsSayableSaid after s → LeadsSayable (moved d n at s)
  moved_said d n Beginning s h said = beginning_leads n s said
  moved_said d n (Named name) s h said = named_leads d n name s h
  moved_said d n (Acting name action arity) s h said = acting_leads n name action arity s h
  moved_said d n (Ready p) s h said = ready_said n p s h
  moved_said d n (Working p units) s h said = working_said n p units s h said
  moved_said d n (Observing o) s h said = observing_said n o s h said
  moved_said d n (Waiting o c) s h said = waiting_said n o c s h said
  moved_said d n (Ended m) s h said = tt

-- ---- lines

pub leads_follow : (d : Domain) (n : ℕ) (at : Place) (table after : Table) (line : List ℕ) (r : Result Place ScriptRefusal) → AreNames table → Leads d n at table line r after → Follows table after
leads_follow d n at table _ line _ known (nothing e) = same_table table known
leads_follow d n at table _ line _ known (bad c a e x) = said_follows at table a line (Err c) known x
leads_follow d n at table _ line _ known (saying s a e x) = said_follows at table a line (Ok s) known x

leads_said : (d : Domain) (n : ℕ) (at : Place) (table after : Table) (line : List ℕ) (r : Result Place ScriptRefusal) → AreNames table → Leads d n at table line r after → IsSayableSoFar table at → LeadsSayable after r
leads_said d n at table _ line _ known (nothing e) so = so
leads_said d n at table _ line _ known (bad c a e x) so = tt
leads_said d n at table _ line _ known (saying s a e x) so =
    moved_said a d n at s (so_far_in table a (said_follows at table a line (Ok s) known x).keeps at so) (line_said at table a line (Ok s) known x)

end_said : (n : ℕ) (at : Place) (table : Table) → IsSayableSoFar table at → IfOk (at_end n at) (IsSayableMember table)
end_said n (Ended m) table so = so
end_said n _ table so = tt

lines_said : (d : Domain) (n : ℕ) (at : Place) (table after : Table) (lines : List (List ℕ)) (r : Result Member ScriptRefusal) → AreNames table → AreLines d n at table lines r after → IsSayableSoFar table at → IfOk r (IsSayableMember after)
lines_said d _ _ _ _ _ _ known (none_left n at table) so = end_said n at table so
lines_said d _ _ _ _ _ _ known (faulty n at table line lines why a x) so = tt
lines_said d _ _ _ _ _ _ known (good_line n at next table m a line lines r x z) so =
    lines_said d (suc n) next m a lines r (leads_follow d n at table m line (Ok next) known x).names z (leads_said d n at table m line (Ok next) known x so)

pub members_are_sayable : MembersAreSayable
members_are_sayable d table bytes m after known is = lines_said d 1 Beginning table after (script_lines bytes) (Ok m) known is tt
