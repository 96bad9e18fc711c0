use Rattle.std.proofs.Common.{◌≡◌, ◌+◌, ◌*◌, max, [], drop, map}
use Rattle.ps_world.specs.CondViews.{cond_tree}
use Rattle.ps_lists.specs.Nested.{nesteds, rank, ranks}
use Rattle.ps_lists.specs.NestedViews.{nested}
use Rattle.ps_conditions.specs.Conditions.{conditions}
use Rattle.ps_conditions.proofs.conditions.+condition.Given as goal

abbrev pub decreases-condition : goal.decreases-condition
decreases-condition g l = 4 * rank (nested l.tree.now)

abbrev pub decreases-form : goal.decreases-form
decreases-form g l = 4 * ranks (nesteds (map nested l.trees.now)) + 3

abbrev pub decreases-negation : goal.decreases-negation
decreases-negation g l = 4 * ranks (nesteds (map nested l.trees.now)) + 1

abbrev pub decreases-both : goal.decreases-both
decreases-both g l = 4 * max (rank (nested l.one.now)) (rank (nested l.other.now)) + 1

abbrev pub decreases-implication : goal.decreases-implication
decreases-implication g l = 4 * ranks (nesteds (map nested l.trees.now)) + 2

abbrev pub decreases-binding : goal.decreases-binding
decreases-binding g l = 4 * rank (nested l.inner.now) + 1

abbrev pub decreases-quantified : goal.decreases-quantified
decreases-quantified g l = 4 * ranks (nesteds (map nested l.trees.now)) + 2

abbrev pub decreases-conditions : goal.decreases-conditions
decreases-conditions g l = 4 * ranks (nesteds (map nested l.trees.now)) + 1

-- the conditions that are left, after those before, are all of them
abbrev pub invariant-conditions-loop-tree : goal.invariant-conditions-loop-tree
invariant-conditions-loop-tree g l =
    conditions _ (g.S.Scope.scopes l.scope) l.params (nesteds (map nested (drop l.tree-index l.trees))) (map cond_tree l.all.items) ≡ conditions _ (g.S.Scope.scopes l.scope) l.params (nesteds (map nested l.trees)) []
