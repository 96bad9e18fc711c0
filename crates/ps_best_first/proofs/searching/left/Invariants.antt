use Rattle.std.proofs.Common.{◌≡◌, ◌++◌, drop}
use Rattle.ps_ground.specs.States.{at}
use Rattle.ps_solve.specs.Stores.{node_at}
use Rattle.ps_greedy.specs.Greedy.{missing_in}
use Rattle.ps_best_first.proofs.searching.left.Given as goal

-- those so far are kept that aren't known
abbrev pub invariant-loop-mark : goal.invariant-loop-mark
invariant-loop-mark l =
    let k = at l.task.problem.now (node_at l.task l.reached l.place).state in
    l.left ++ missing_in k (drop l.mark-index l.marks) ≡ missing_in k l.marks
