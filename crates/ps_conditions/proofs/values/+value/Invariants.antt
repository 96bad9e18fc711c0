use Rattle.std.proofs.Common.{◌+◌, ◌*◌, map}
use Rattle.ps_lists.specs.Nested.{nesteds, rank, ranks}
use Rattle.ps_lists.specs.NestedViews.{nested}
use Rattle.ps_conditions.proofs.values.+value.Given as goal

abbrev pub decreases-value : goal.decreases-value
decreases-value g l = 2 * rank (nested l.tree.now)

abbrev pub decreases-operation : goal.decreases-operation
decreases-operation g l = 2 * ranks (nesteds (map nested l.trees.now)) + 1
