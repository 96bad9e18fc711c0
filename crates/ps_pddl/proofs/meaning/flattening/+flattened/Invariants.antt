use Rattle.std.proofs.Common.{◌≡◌, ◌+◌, ◌*◌, drop, map}
use Rattle.ps_lists.specs.Nested.{nesteds, rank, ranks}
use Rattle.ps_lists.specs.NestedViews.{nested}
use Rattle.ps_pddl.specs.Effects.{all_flattened}
use Rattle.ps_pddl.proofs.meaning.flattening.+flattened.Given as goal

abbrev pub decreases-flattened : goal.decreases-flattened
decreases-flattened g l = 4 * rank (nested l.tree.now)

abbrev pub decreases-flattened_form : goal.decreases-flattened_form
decreases-flattened_form g l = 4 * ranks (nesteds (map nested l.trees.now)) + 3

abbrev pub decreases-all_flattened : goal.decreases-all_flattened
decreases-all_flattened g l = 4 * ranks (nesteds (map nested l.trees.now)) + 1

-- the effects that are left, after those before, are those of all
abbrev pub invariant-all_flattened-loop-tree : goal.invariant-all_flattened-loop-tree
invariant-all_flattened-loop-tree g l =
    all_flattened (g.L.Level.one l.level) (nesteds (map nested (drop l.tree-index l.trees))) l.all ≡ all_flattened (g.L.Level.one l.level) (nesteds (map nested l.trees)) l.initial.all
