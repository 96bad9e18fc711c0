use Rattle.std.proofs.Common.{◌≡◌, ◌+◌, ◌*◌, length, map, drop}
use Rattle.ps_world.specs.Trees.{cond_trees, cond_rank, conds_rank}
use Rattle.ps_world.specs.CondViews.{cond_tree}
use Rattle.ps_world.specs.Knowledge.{fault_of_conds}
use Rattle.ps_action.proofs.goals.+cond_fault.Given as goal

-- a condition stands below the list, the box or the variables that it is in
abbrev pub decreases-cond_fault_in : goal.decreases-cond_fault_in
decreases-cond_fault_in g l = 10 * cond_rank (cond_tree l.cond.now)

abbrev pub decreases-boxed_cond_fault : goal.decreases-boxed_cond_fault
decreases-boxed_cond_fault g l = 10 * cond_rank l.boxed.now + 1

abbrev pub decreases-conds_fault : goal.decreases-conds_fault
decreases-conds_fault g l = 10 * conds_rank l.conds.now + 1

abbrev pub decreases-bound_fault : goal.decreases-bound_fault
decreases-bound_fault g l = 10 * cond_rank l.cond.now + 2 + length l.params.now

abbrev pub invariant-conds_fault-loop-cond : goal.invariant-conds_fault-loop-cond
invariant-conds_fault-loop-cond g l =
    fault_of_conds (g.D.Types.types l.domain) (g.K.Known.known l.known) l.kinds (cond_trees (map cond_tree (drop l.cond-index l.cond-items))) ≡ fault_of_conds (g.D.Types.types l.domain) (g.K.Known.known l.known) l.kinds (cond_trees l.conds)
