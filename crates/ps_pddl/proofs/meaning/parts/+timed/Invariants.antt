use Rattle.std.proofs.Common.{◌≡◌, ◌+◌, ◌*◌, drop, map}
use Rattle.ps_lists.specs.Nested.{nesteds, rank, ranks}
use Rattle.ps_lists.specs.NestedViews.{nested}
use Rattle.ps_pddl.specs.Conditions.{all_timed}
use Rattle.ps_pddl.proofs.meaning.parts.+timed.Given as goal

abbrev pub decreases-timed : goal.decreases-timed
decreases-timed l = 4 * rank (nested l.tree.now)

abbrev pub decreases-timed_list : goal.decreases-timed_list
decreases-timed_list l = 4 * ranks (nesteds (map nested l.trees.now)) + 3

abbrev pub decreases-all_timed : goal.decreases-all_timed
decreases-all_timed l = 4 * ranks (nesteds (map nested l.trees.now)) + 1

-- the parts of the forms that are left, after those before, are those of all
abbrev pub invariant-all_timed-loop-tree : goal.invariant-all_timed-loop-tree
invariant-all_timed-loop-tree l =
    all_timed l.scope.domain.now l.scope.params.now (nesteds (map nested (drop l.tree-index l.trees))) l.all ≡ all_timed l.scope.domain.now l.scope.params.now (nesteds (map nested l.trees)) l.initial.all
