-- What counts as the same: equal values, and causes that print alike.
use Rattle.std.specs.Prelude.{Bool, true, false, ◌&&◌, List}
use Rattle.std.specs.Cmp.Lexicographic.{pointwise}
use Rattle.ps_world.specs.Same.{is_same}
use Rattle.ps_world.specs.Names.{same_name}
use Rattle.ps_world.specs.Knowledge.{same_fact}
use Rattle.ps_world.specs.CondViews.{cond_tree}
use Rattle.ps_world.specs.Trees.{cond_tree_code}
use Rattle.std.specs.Ordering.{int_eq}
use Rattle.ps_world.specs.declared.edits.Edit.TheVariants as change
use Rattle.ps_world.specs.declared.edits.Edit.{Edit}
use Rattle.ps_world.specs.declared.edits.EditRefusal.TheVariants as edit
use Rattle.ps_action.specs.declared.acts.Act.{Act}
use Rattle.ps_action.specs.declared.refusals.GroundRefusal.TheVariants as ground
use Rattle.ps_machine.specs.contracts.inputs.Query as a_query
use Rattle.ps_machine.specs.declared.inputs.Query.{Query}
use Rattle.ps_machine.specs.contracts.journal.Outcome as an_outcome
use Rattle.ps_machine.specs.declared.journal.Outcome.{Outcome}
use Rattle.ps_machine.specs.contracts.journal.Refusal as a_refusal
use Rattle.ps_machine.specs.declared.journal.Refusal.{Refusal}
use Rattle.ps_machine.specs.declared.journal.Refusal.TheVariants as refusal

-- whether two edits are the same
abbrev pub same_edit : Edit → Edit → Bool
same_edit (change.AddInstance n t) (change.AddInstance m u) = same_name n m && same_name t u
same_edit (change.RemoveInstance n) (change.RemoveInstance m) = same_name n m
same_edit (change.AddFact f) (change.AddFact g) = same_fact f g
same_edit (change.RemoveFact f) (change.RemoveFact g) = same_fact f g
same_edit (change.SetValue f x) (change.SetValue g y) = same_fact f g && int_eq x y
same_edit (change.RemoveValue f) (change.RemoveValue g) = same_fact f g
same_edit (change.SetGoal c) (change.SetGoal d) = is_same cond_tree_code (cond_tree c) (cond_tree d)
same_edit change.RemoveGoal change.RemoveGoal = true
same_edit e f = false

-- whether two acts are the same
abbrev pub same_act : Act → Act → Bool
same_act a b = same_name a.action b.action && pointwise same_name a.args b.args

-- whether two queries are the same
abbrev pub same_query : Query → Query → Bool
same_query = is_same a_query.the_row.coded

-- whether two runs ended in the same way
abbrev pub same_outcome : Outcome → Outcome → Bool
same_outcome = is_same an_outcome.the_row.coded

-- whether two plans are the same
abbrev pub same_acts : List Act → List Act → Bool
same_acts = pointwise same_act

-- of the causes that print as this one does, the one that stands first among all causes
abbrev pub first_alike : Refusal → Refusal
first_alike (refusal.Ground (ground.NoInstance n)) = refusal.Edit (edit.NoInstance n)
first_alike (refusal.Ground (ground.Arity want got)) = refusal.Edit (edit.Arity want got)
first_alike (refusal.Ground (ground.WrongType at)) = refusal.Edit (edit.WrongType at)
first_alike refusal.NoGoal = refusal.Edit edit.NoGoal
first_alike refusal.NoPredicate = refusal.Edit edit.NoPredicate
first_alike refusal.NoAction = refusal.Ground ground.NoAction
first_alike why = why

-- whether two causes print alike
abbrev pub same_cause : Refusal → Refusal → Bool
same_cause why other = is_same a_refusal.the_row.coded (first_alike why) (first_alike other)
