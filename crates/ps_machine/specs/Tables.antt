-- What can be printed with a table of so many names: all of whose names the table has.
use Rattle.std.specs.Prelude.{ℕ, ◌≤◌, Bool, ◌&&◌, not, nat_eq, nat_le, Ok, Err, Option, IfSome, All, List, codes, length, IsTrue}
use Rattle.std.specs.List.{ends_with, list_all, starts_with}
use Rattle.ps_world.specs.CondViews.{cond_tree}
use Rattle.ps_world.specs.Tables.{IsOf, IsGoalOf, IsEditOf, IsEditRefusalOf}
use Rattle.ps_world.specs.declared.conditions.Cond.{Cond}
use Rattle.ps_world.specs.declared.edits.Edit.{Edit}
use Rattle.ps_action.specs.declared.acts.Act.{Act}
use Rattle.ps_action.specs.declared.acts.PlanStep.{PlanStep}
use Rattle.ps_action.specs.declared.refusals.GroundRefusal.{GroundRefusal}
use Rattle.ps_action.specs.declared.refusals.GroundRefusal.TheVariants as ground
use Rattle.ps_action.specs.declared.refusals.PlanRefusal.{PlanRefusal}
use Rattle.ps_action.specs.declared.refusals.PlanRefusal.TheVariants as plan
use Rattle.ps_machine.specs.declared.inputs.Query.{Query}
use Rattle.ps_machine.specs.declared.inputs.Query.TheVariants as query
use Rattle.ps_machine.specs.declared.inputs.Command.TheVariants as command
use Rattle.ps_machine.specs.declared.inputs.Line.{Line}
use Rattle.ps_machine.specs.declared.inputs.Line.TheVariants.{Good, Bad}
use Rattle.ps_machine.specs.declared.members.Unit.{Unit as Task}
use Rattle.ps_machine.specs.declared.members.Unit.TheVariants as unit
use Rattle.ps_machine.specs.declared.members.Performer.{Performer}
use Rattle.ps_machine.specs.declared.members.Observer.{Observer}
use Rattle.ps_machine.specs.declared.members.Member.{Member}
use Rattle.ps_machine.specs.declared.members.Member.TheVariants as member
use Rattle.ps_machine.specs.declared.journal.By.{By}
use Rattle.ps_machine.specs.declared.journal.By.TheVariants as by
use Rattle.ps_machine.specs.declared.journal.Refusal.{Refusal}
use Rattle.ps_machine.specs.declared.journal.Refusal.TheVariants as refusal
use Rattle.ps_machine.specs.declared.journal.Event.{Event}
use Rattle.ps_machine.specs.declared.journal.Event.TheVariants as event

-- ---- lines

-- a query's names are
abbrev pub IsQueryOf : ℕ → Query → Type 0
IsQueryOf count (query.ModelPredicate n) = IsOf count n
IsQueryOf count (query.ModelAction n) = IsOf count n
IsQueryOf count q = Unit {0}

-- an act's names are
abbrev pub IsActOf : ℕ → Act → Type 0
IsActOf count act = IsOf count act.action × All (IsOf count) act.args

-- the names of a step of a plan are
abbrev pub IsStepOf : ℕ → PlanStep → Type 0
IsStepOf count step = IsActOf count step.act

-- a line's names are
abbrev pub IsLineOf : ℕ → Line → Type 0
IsLineOf count (Good (command.Edit edit)) = IsEditOf count edit
IsLineOf count (Good (command.Ask q)) = IsQueryOf count q
IsLineOf count (Good command.Run) = Unit {0}
IsLineOf count (Good (command.RunAction act)) = IsActOf count act
IsLineOf count (Good (command.RunPlan (Ok steps))) = All (IsStepOf count) steps
IsLineOf count (Good (command.RunPlan (Err why))) = Unit {0}
IsLineOf count (Good command.Quit) = Unit {0}
IsLineOf count (Bad cause) = Unit {0}

-- ---- members

-- whether a byte is printable
abbrev pub is_printable : ℕ → Bool
is_printable b = nat_le 32 b && nat_le b 126

-- whether a note is of the form that members may give: 1 to 64 printable bytes without blanks at its ends
abbrev pub is_note : List ℕ → Bool
is_note text =
    ((nat_le 1 (length text) && nat_le (length text) 64) && list_all is_printable text)
    && (not (starts_with nat_eq text (codes " ")) && not (ends_with nat_eq text (codes " ")))

-- a unit's names are, and what it tells is a percentage with a note
abbrev pub IsUnitOf : ℕ → Task → Type 0
IsUnitOf count unit.Work = Unit {0}
IsUnitOf count (unit.Feedback percent text) = (percent ≤ 100) × IsTrue (is_note text)
IsUnitOf count (unit.Edit edit) = IsEditOf count edit
IsUnitOf count (unit.Finish ok) = Unit {0}

-- the names of an edit of an observer and of its condition are
abbrev pub IsItemOf : ℕ → Option Cond × Edit → Type 0
IsItemOf count item = IfSome item.0 (λ when. IsGoalOf count (cond_tree when)) × IsEditOf count item.1

-- all names of a performer are
pub record IsPerformerOf (count : ℕ) (p : Performer) : Type 0 where
  pub name : IsOf count p.name
  pub action : IsOf count p.action
  pub pattern : All (λ place. IfSome place (IsOf count)) p.pattern
  pub jobs : All (λ job. All (IsUnitOf count) job) p.jobs

-- all names of an observer are
pub record IsObserverOf (count : ℕ) (o : Observer) : Type 0 where
  pub name : IsOf count o.name
  pub units : All (IsItemOf count) o.units

-- all names of a member are
abbrev pub IsMemberOf : ℕ → Member → Type 0
IsMemberOf count (member.Performer p) = IsPerformerOf count p
IsMemberOf count (member.Observer o) = IsObserverOf count o

-- ---- entries

-- the names of refusals are
abbrev pub IsGroundRefusalOf : ℕ → GroundRefusal → Type 0
IsGroundRefusalOf count (ground.NoInstance n) = IsOf count n
IsGroundRefusalOf count r = Unit {0}

abbrev pub IsPlanRefusalOf : ℕ → PlanRefusal → Type 0
IsPlanRefusalOf count (plan.Ground at r) = IsGroundRefusalOf count r
IsPlanRefusalOf count r = Unit {0}

abbrev pub IsRefusalOf : ℕ → Refusal → Type 0
IsRefusalOf count (refusal.Edit r) = IsEditRefusalOf count r
IsRefusalOf count (refusal.Ground r) = IsGroundRefusalOf count r
IsRefusalOf count (refusal.Plan r) = IsPlanRefusalOf count r
IsRefusalOf count r = Unit {0}

-- the names of whoever edits are
abbrev pub IsByOf : ℕ → By → Type 0
IsByOf count (by.Terminal n) = Unit {0}
IsByOf count (by.Performer r p) = IsOf count p
IsByOf count (by.Observer o) = IsOf count o

-- the names of an event are, and what a performer tells is a percentage with a note
abbrev pub IsEventOf : ℕ → Event → Type 0
IsEventOf count (event.Edit by edit) = IsByOf count by × IsEditOf count edit
IsEventOf count (event.Refused by why) = IsByOf count by × IsRefusalOf count why
IsEventOf count (event.Ask q) = IsQueryOf count q
IsEventOf count (event.Run for acts) = All (IsActOf count) acts
IsEventOf count (event.Offer r p) = IsOf count p
IsEventOf count (event.Pass r p why) = IsOf count p
IsEventOf count (event.Confirm r p) = IsOf count p
IsEventOf count (event.Reject r p) = IsOf count p
IsEventOf count (event.Begin r p) = IsOf count p
IsEventOf count (event.UnitWork r p) = IsOf count p
IsEventOf count (event.Feedback r p percent text) = IsOf count p × (percent ≤ 100) × IsTrue (is_note text)
IsEventOf count (event.Finish r p ok) = IsOf count p
IsEventOf count (event.Stopped r p) = IsOf count p
IsEventOf count (event.Replan acts) = All (IsActOf count) acts
IsEventOf count e = Unit {0}
