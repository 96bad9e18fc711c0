use Rattle.std.proofs.Common.{◌≡◌, ◌+◌, ◌*◌, map, drop}
use Rattle.ps_world.specs.Trees.{cond_trees, cond_rank, conds_rank}
use Rattle.ps_world.specs.CondViews.{cond_tree}
use Rattle.ps_world.specs.Knowledge.{conds_name}
use Rattle.ps_world.proofs.naming.+is_in_cond.Given as goal

-- a condition stands below the list or the box that it is in
abbrev pub decreases-is_in_cond : goal.decreases-is_in_cond
decreases-is_in_cond l = 2 * cond_rank (cond_tree l.cond.now)

abbrev pub decreases-is_in_boxed_cond : goal.decreases-is_in_boxed_cond
decreases-is_in_boxed_cond l = 2 * cond_rank l.boxed.now + 1

abbrev pub decreases-is_in_conds : goal.decreases-is_in_conds
decreases-is_in_conds l = 2 * conds_rank l.conds.now + 1

abbrev pub invariant-is_in_conds-loop-cond : goal.invariant-is_in_conds-loop-cond
invariant-is_in_conds-loop-cond l =
    conds_name l.name (cond_trees (map cond_tree (drop l.cond-index l.cond-items))) ≡ conds_name l.name (cond_trees l.conds)
