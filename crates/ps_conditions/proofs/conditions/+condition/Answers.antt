use Rattle.std.proofs.Common.{arith, map, sym}
use Rattle.std.proofs.lemmas.Bool.Decides.{nat_tests}
use Rattle.ps_lists.specs.Nested.{nesteds}
use Rattle.ps_lists.specs.NestedViews.{nested}
use Rattle.ps_lists.proofs.NestedLists.{item-rank, rest-rank}
use Rattle.ps_conditions.proofs.ConditionForms.{few_implied, few_quantified, opened, two_implied, two_quantified}
use Rattle.ps_conditions.proofs.Operations.{group-rank}
use Rattle.ps_conditions.proofs.conditions.+condition.Goals as goal

pub condition-form-requires : goal.condition-form-requires
condition-form-requires g t c κs within =
    (omega (arith, c.decreases, group-rank c.args.tree.now c.in-Group.trees c.as_slice.result.now c.in-Group.is c.as_slice.ensures), (within.0, (within.1, c.requires)))

pub conditions-condition-requires : goal.conditions-condition-requires
conditions-condition-requires g t c κs within =
    (omega (arith, c.decreases, item-rank c.args.trees.now c.loop-tree.tree-index c.tree-item.result (omega arith) c.tree-item.is), (within.0, (within.1, c.requires)))

pub form-conditions-requires : goal.form-conditions-requires
form-conditions-requires g t c κs within =
    (rw c.rest-operands.ensures (omega (arith, c.decreases, rest-rank (nesteds (map nested c.args.trees.now)))), (within.0, (within.1, c.requires)))

pub form-returns-in-Plain : goal.form-returns-in-Plain
form-returns-in-Plain g t c =
    rw (opened _ (g.S.Scope.scopes c.args.scope.now) c.args.params.now c.args.trees.now (grind (arith, nat_tests)), sym c.head-word.ensures, sym c.rest-operands.ensures, sym c.head_of.ensures, c.in-Plain.is) c.plain_condition.ensures

pub implication-returns-in-len2-up : goal.implication-returns-in-len2-up
implication-returns-in-len2-up g t c =
    rw (two_implied _ (g.S.Scope.scopes c.args.scope.now) c.args.params.now c.args.trees.now c.one-item.result c.other-item.result (omega arith) c.one-item.is c.other-item.is) c.both.ensures

pub implication-returns-in_default : goal.implication-returns-in_default
implication-returns-in_default g t c = rw (c.new.ensures) (few_implied _ (g.S.Scope.scopes c.args.scope.now) c.args.params.now c.args.trees.now (omega arith))

pub quantified-returns-in-len2-up : goal.quantified-returns-in-len2-up
quantified-returns-in-len2-up g t c =
    rw (two_quantified _ (g.S.Scope.scopes c.args.scope.now) c.args.params.now c.args.each c.args.trees.now c.vars-item.result c.inner-item.result (omega arith) c.vars-item.is c.inner-item.is) c.binding.ensures

pub quantified-returns-in_default : goal.quantified-returns-in_default
quantified-returns-in_default g t c = rw (c.new.ensures) (few_quantified _ (g.S.Scope.scopes c.args.scope.now) c.args.params.now c.args.each c.args.trees.now (omega arith))
