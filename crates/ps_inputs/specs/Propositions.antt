-- That an input is sound is a proposition, and so is that a domain has few constants, each of them once.
use Rattle.std.proofs.Common.{Option, Ok, Err, List, ◌++◌}
use Rattle.std.proofs.Props.{props}
use Rattle.ps_world.specs.Trees.{CondTree, CondTrees, all_of, any_of, no, implied, holds, same, compares, is_a, for_some, for_all, none, more}
use Rattle.ps_world.specs.Leaves.{AllIn, AllInEach}
use Rattle.ps_world.specs.declared.conditions.Cond.{Cond}
use Rattle.ps_world.specs.declared.domains.Param.{Param}
use Rattle.ps_world.specs.declared.domains.Domain.{Domain}
use Rattle.ps_world.specs.declared.edits.Edit.{Edit}
use Rattle.ps_world.specs.declared.edits.Edit.TheVariants.{AddInstance, RemoveInstance, AddFact, RemoveFact, SetValue, RemoveValue, SetGoal, RemoveGoal}
use Rattle.ps_problem.specs.WellKnown.{HasConstants}
use Rattle.ps_machine.specs.declared.inputs.Command.TheVariants as command
use Rattle.ps_machine.specs.declared.inputs.Input.{Input}
use Rattle.ps_machine.specs.declared.inputs.Line.{Line}
use Rattle.ps_machine.specs.declared.inputs.Line.TheVariants.{Good, Bad}
use Rattle.ps_machine.specs.declared.members.Unit.{Unit as Task}
use Rattle.ps_machine.specs.declared.members.Unit.TheVariants as unit
use Rattle.ps_machine.specs.declared.members.Performer.{Performer}
use Rattle.ps_machine.specs.declared.members.Observer.{Observer}
use Rattle.ps_rules.specs.Sound.{script_leaves, IsScriptCond, IsScriptEdit, IsSound, IsSoundItem, IsSoundJob, IsSoundLine, IsSoundObserver, IsSoundPerformer, IsSoundUnit}

mutual
  closed-prop : (ps : List Param) (c : CondTree) → IsProp (AllIn script_leaves ps c)
  closed-prop ps (all_of cs) = closed-each-prop ps cs
  closed-prop ps (any_of cs) = hlevel (props, closed-each-prop ps cs)
  closed-prop ps (no c) = closed-prop ps c
  closed-prop ps (implied a b) = hlevel (props, closed-prop ps a, closed-prop ps b)
  closed-prop ps (holds l) = hlevel props
  closed-prop ps (same s t) = hlevel props
  closed-prop ps (compares rel x y) = hlevel props
  closed-prop ps (is_a t kind) = hlevel props
  closed-prop ps (for_some qs c) = hlevel (props, closed-prop (ps ++ qs) c)
  closed-prop ps (for_all qs c) = hlevel (props, closed-prop (ps ++ qs) c)

  closed-each-prop : (ps : List Param) (cs : CondTrees) → IsProp (AllInEach script_leaves ps cs)
  closed-each-prop ps none = hlevel props
  closed-each-prop ps (more c cs) = hlevel (props, closed-prop ps c, closed-each-prop ps cs)

written-cond-prop : (c : Cond) → IsProp (IsScriptCond c)
written-cond-prop c = hlevel (props, closed-prop)

written-edit-prop : (edit : Edit) → IsProp (IsScriptEdit edit)
written-edit-prop (AddInstance x t) = hlevel props
written-edit-prop (RemoveInstance x) = hlevel props
written-edit-prop (AddFact f) = hlevel props
written-edit-prop (RemoveFact f) = hlevel props
written-edit-prop (SetValue f x) = hlevel props
written-edit-prop (RemoveValue f) = hlevel props
written-edit-prop (SetGoal goal) = written-cond-prop goal
written-edit-prop RemoveGoal = hlevel props

unit-prop : (u : Task) → IsProp (IsSoundUnit u)
unit-prop unit.Work = hlevel props
unit-prop (unit.Feedback percent note) = hlevel props
unit-prop (unit.Edit edit) = written-edit-prop edit
unit-prop (unit.Finish ok) = hlevel props

job-prop : (units : List Task) → IsProp (IsSoundJob units)
job-prop units = hlevel (props, unit-prop)

performer-prop : (d : Domain) (p : Performer) → IsProp (IsSoundPerformer d p)
performer-prop d p = hlevel (props, job-prop)

item-prop : (item : Option Cond × Edit) → IsProp (IsSoundItem item)
item-prop item = hlevel (props, written-cond-prop, written-edit-prop)

observer-prop : (o : Observer) → IsProp (IsSoundObserver o)
observer-prop o = hlevel (props, item-prop)

sound-line-prop : (line : Line) → IsProp (IsSoundLine line)
sound-line-prop (Good (command.Edit edit)) = written-edit-prop edit
sound-line-prop (Good (command.Ask q)) = hlevel props
sound-line-prop (Good command.Run) = hlevel props
sound-line-prop (Good (command.RunAction act)) = hlevel props
sound-line-prop (Good (command.RunPlan (Ok steps))) = hlevel props
sound-line-prop (Good (command.RunPlan (Err why))) = hlevel props
sound-line-prop (Good command.Quit) = hlevel props
sound-line-prop (Bad cause) = hlevel props

pub sound_prop : (i : Input) → IsProp (IsSound i)
sound_prop i = hlevel (props, performer-prop i.domain, observer-prop, sound-line-prop)

pub constants_prop : (d : Domain) → IsProp (HasConstants d)
constants_prop d = hlevel props
