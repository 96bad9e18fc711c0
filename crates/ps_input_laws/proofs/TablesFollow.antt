-- Scripts and members that are read keep the names of the table before them.
use Rattle.std.proofs.Common.{ℕ, Option, Some, None, Result, List, [], ◌∷◌, Ok, Err, refl, sym, subst}
use Rattle.ps_world.specs.Names.{Table}
use Rattle.ps_world.specs.declared.domains.Domain.{Domain}
use Rattle.ps_action.specs.declared.acts.PlanStep.{PlanStep}
use Rattle.ps_action.specs.declared.refusals.PlanTextRefusal.{PlanTextRefusal}
use Rattle.ps_machine.specs.declared.inputs.Line.{Line}
use Rattle.ps_machine.specs.declared.members.Member.{Member}
use Rattle.ps_text.specs.Names.{AreNames, Keeps, folded, interned}
use Rattle.ps_text.specs.ScriptLines.{script_lines}
use Rattle.ps_text.proofs.Kept.{kept_along, kept_interned}
use Rattle.ps_plan.specs.PlanText.{Said, named_all, placed, plan_fault, planned, said_by, step_of, table_after}
use Rattle.ps_script.specs.Lines.{IsRead}
use Rattle.ps_script.specs.declared.reading.Read.{Read}
use Rattle.ps_script.specs.declared.reading.Read.TheVariants as read
use Rattle.ps_members.specs.Members.{AreLines, IsMember}
use Rattle.ps_members.specs.Members.AreLines.{none_left, fault, good}
use Rattle.ps_members.specs.declared.places.Place.{Place}
use Rattle.ps_members.specs.declared.places.Place.TheVariants.{Beginning}
use Rattle.ps_members.specs.declared.refusals.ScriptRefusal.{ScriptRefusal}
use Rattle.ps_entries.proofs.ReadTables.{goes_read}
use Rattle.ps_history_laws.proofs.ReadMembers.{leads_follow}
use Rattle.ps_history_laws.proofs.ReadUnits.{Follows, same_table, then_follow}
use Rattle.ps_inputs.specs.Flats.{Flattened}
use Rattle.ps_inputs.specs.Flats.Flattened.{plain, with_plan, too_deep}
use Rattle.ps_inputs.specs.Members.{AreMembers, NamedText}
use Rattle.ps_inputs.specs.Members.AreMembers.{nobody, one_more as one_member_more}
use Rattle.ps_inputs.specs.Scripts.{Adds, IsScript, plan_in, unless_faulty}
use Rattle.ps_inputs.specs.Scripts.IsScript.{nothing, one_more}
use Rattle.ps_inputs.proofs.PlanNames.{after_plan}

-- ---- a plan's text

names_kept : (t : Table) (ws : List (List ℕ)) → Keeps t (named_all t ws).1
names_kept t [] = λ n lt. refl
names_kept t (w ∷ ws) =
    let next = interned t (folded w) in
    kept_along t next (named_all next ws).1 (kept_interned t (folded w)) (names_kept next ws)

step_kept : (t : Table) (s : Said) → Keeps t (table_after t s)
step_kept t s =
    let next = interned t (folded s.action) in
    kept_along t next (named_all next s.args).1 (kept_interned t (folded s.action)) (names_kept next s.args)

steps_kept : (t : Table) (steps : List PlanStep) (ss : List Said) → Keeps t (planned t steps ss).1
steps_kept t steps [] = λ n lt. refl
steps_kept t steps (s ∷ ss) =
    let next = table_after t s in
    let now = placed (step_of t s) steps in
    kept_along t next (planned next now ss).1 (step_kept t s) (steps_kept next now ss)

plan_kept : (t : Table) (text : List ℕ) (fault : Option PlanTextRefusal) → Keeps t (unless_faulty t text fault).1
plan_kept t text (Some why) = λ n lt. refl
plan_kept t text None = steps_kept t [] (said_by text)

pub plan_follows : (t : Table) (text : List ℕ) → AreNames t → Follows t (plan_in t text).1
plan_follows t text known = record { names = after_plan t text known; keeps = plan_kept t text (plan_fault text) }

-- ---- scripts

pub line_follows : (t : Table) (bytes : List ℕ) (r : Read) (after : Table) → AreNames t → IsRead t bytes r after → Follows t after
line_follows t bytes r after known is =
    let goes = goes_read t bytes r after is in
    record { names = goes.names known; keeps = goes.kept }

-- the table after a command line follows that before it
pub added_follows : (t : Table) (one : Flattened) (new : List Line) (after : Table) → AreNames t → Adds t one new after → Follows t after
added_follows t (plain bytes) new after known is = line_follows t bytes (read.Line is.0) after known is.1
added_follows t (with_plan bytes text) new after known is =
    let first = line_follows t bytes is.0 is.1 known is.2 in
    then_follow t is.1 after first (subst (Follows is.1) (sym is.4) (plan_follows is.1 text first.names))
added_follows t too_deep new after known is = subst (Follows t) (sym is.1) (same_table t known)

-- so does that after a script
pub script_follows : (first : Table) (flats : List Flattened) (lines : List Line) (after : Table) → AreNames first → IsScript first flats lines after → Follows first after
script_follows first _ _ _ known nothing = same_table first known
script_follows first _ _ after known (one_more before lines table one new _ is adds) =
    let earlier = script_follows first before lines table known is in
    then_follow first table after earlier (added_follows table one new after earlier.names adds)

-- ---- members

lines_follow : (d : Domain) (n : ℕ) (at : Place) (table after : Table) (lines : List (List ℕ)) (r : Result Member ScriptRefusal) → AreNames table → AreLines d n at table lines r after → Follows table after
lines_follow d _ _ _ _ _ _ known (none_left n at table) = same_table table known
lines_follow d _ _ _ _ _ _ known (fault n at table line lines why after leads) = leads_follow d n at table after line (Err why) known leads
lines_follow d _ _ _ _ _ _ known (good n at next table middle after line lines r leads are) =
    let first = leads_follow d n at table middle line (Ok next) known leads in
    then_follow table middle after first (lines_follow d _ next middle after lines r first.names are)

-- the table after the text of a member follows that before it
pub member_follows : (d : Domain) (t : Table) (text : List ℕ) (m : Member) (after : Table) → AreNames t → IsMember d t text (Ok m) after → Follows t after
member_follows d t text m after known is = lines_follow d 1 Beginning t after (script_lines text) (Ok m) known is

-- so does that after the texts of members
pub members_follow : (d : Domain) (first : Table) (texts : List NamedText) (ms : List Member) (after : Table) → AreNames first → AreMembers d first texts ms after → Follows first after
members_follow d first _ _ _ known nobody = same_table first known
members_follow d first _ _ after known (one_member_more before ms table one m _ are is) =
    let earlier = members_follow d first before ms table known are in
    then_follow first table after earlier (member_follows d table one.text m after earlier.names is)
