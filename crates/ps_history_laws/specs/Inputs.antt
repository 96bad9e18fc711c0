-- The inputs of which all that stands in an entry can be said with a table of names.
use Rattle.std.specs.Prelude.{ℕ, ◌≤◌, Ok, All, length}
use Rattle.ps_world.specs.Names.{Table}
use Rattle.ps_world.specs.Tables.{IsOf}
use Rattle.ps_world.specs.declared.actions.ActionDef.{ActionDef}
use Rattle.ps_world.specs.declared.domains.Domain.{Domain}
use Rattle.ps_machine.specs.Tables.{IsActOf, IsStepOf}
use Rattle.ps_machine.specs.declared.inputs.Command.TheVariants as command
use Rattle.ps_machine.specs.declared.inputs.Line.{Line}
use Rattle.ps_machine.specs.declared.inputs.Line.TheVariants.{Good}
use Rattle.ps_machine.specs.declared.inputs.Input.{Input}
use Rattle.ps_machine.specs.declared.members.Unit.{Unit as Task}
use Rattle.ps_machine.specs.declared.members.Unit.TheVariants as unit
use Rattle.ps_machine.specs.declared.members.Member.{Member}
use Rattle.ps_machine.specs.declared.members.Member.TheVariants as member
use Rattle.ps_machine.specs.declared.members.Observer.{Observer}
use Rattle.ps_machine.specs.declared.members.Performer.{Performer}
use Rattle.ps_script_laws.specs.Sayable.{IsEditOf, IsQueryOf}

-- an action's name stands in the table, and it has at most 6 parameters
pub record IsSayableAction (count : ℕ) (a : ActionDef) : Type 0 where
  pub name : IsOf count a.name
  pub few : length a.params ≤ 6

-- the names of a domain's constants stand in the table, and an act of each action can be said
pub record IsSayableDomain (count : ℕ) (d : Domain) : Type 0 where
  pub constants : All (λ c. IsOf count c.name) d.constants
  pub actions : All (IsSayableAction count) d.actions

-- an edit or a query of a line can be said, and the names of an act or of a plan's steps stand in the table
abbrev pub IsSayableLine : Table → Line → Type 0
IsSayableLine names (Good (command.Edit edit)) = IsEditOf names edit
IsSayableLine names (Good (command.Ask q)) = IsQueryOf names q
IsSayableLine names (Good (command.RunAction act)) = IsActOf (length names) act
IsSayableLine names (Good (command.RunPlan (Ok steps))) = All (IsStepOf (length names)) steps
IsSayableLine names line = Unit {0}

-- the edit of a unit can be said
abbrev pub IsSayableUnit : Table → Task → Type 0
IsSayableUnit names (unit.Edit edit) = IsEditOf names edit
IsSayableUnit names u = Unit {0}

-- a performer's name stands in the table, and the edits of its jobs can be said
pub record IsSayablePerformer (names : Table) (p : Performer) : Type 0 where
  pub name : IsOf (length names) p.name
  pub jobs : All (All (IsSayableUnit names)) p.jobs

-- an observer's name stands in the table, and its edits can be said
pub record IsSayableObserver (names : Table) (o : Observer) : Type 0 where
  pub name : IsOf (length names) o.name
  pub units : All (λ item. IsEditOf names item.1) o.units

-- the same of a member
abbrev pub IsSayableMember : Table → Member → Type 0
IsSayableMember names (member.Performer p) = IsSayablePerformer names p
IsSayableMember names (member.Observer o) = IsSayableObserver names o

-- An input of which all that stands in an entry can be said, where these are the names.
pub record IsSayableInput (names : Table) (i : Input) : Type 0 where
  pub domain : IsSayableDomain (length names) i.domain
  pub lines : All (IsSayableLine names) i.lines
  pub members : All (IsSayableMember names) i.members
