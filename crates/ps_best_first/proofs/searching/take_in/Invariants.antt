use Rattle.std.proofs.Common.{◌≡◌, ◌++◌, drop, length, map}
use Rattle.ps_solve.specs.Stores.{nodes_in}
use Rattle.ps_best_first.specs.Search.{leaf_of}
use Rattle.ps_best_first.proofs.searching.take_in.Given as goal

-- those so far are taken in
abbrev pub invariant-loop-place : goal.invariant-loop-place
invariant-loop-place l = record {
  many : length l.leaves ≡ l.place;
  same : l.leaves ++ map (leaf_of l.task.problem.now l.depth l.marks) (drop l.place (nodes_in l.task l.reached))
      ≡ l.initial.leaves ++ map (leaf_of l.task.problem.now l.depth l.marks) (drop (length l.initial.leaves) (nodes_in l.task l.reached));
}
