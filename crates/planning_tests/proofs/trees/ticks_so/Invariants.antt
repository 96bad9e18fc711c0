use Rattle.std.proofs.Common.{◌≡◌, length}
use Rattle.planning_tests.proofs.trees.ticks_so.Given as goal

abbrev pub invariant-loop-at : goal.invariant-loop-at
invariant-loop-at g l = length l.tree.waits ≡ 3
