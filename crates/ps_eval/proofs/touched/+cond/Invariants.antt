use Rattle.std.proofs.Common.{◌≡◌, ◌+◌, ◌*◌, ◌++◌, map, drop}
use Rattle.ps_world.specs.Trees.{cond_rank, conds_rank}
use Rattle.ps_world.specs.CondViews.{cond_tree}
use Rattle.ps_action.specs.Touching.{read_by_list}
use Rattle.ps_eval.proofs.touched.+cond.Given as goal

-- a condition stands below the list or the box that it is in
abbrev pub decreases-push_cond : goal.decreases-push_cond
decreases-push_cond l = 2 * cond_rank (cond_tree l.cond.now)

abbrev pub decreases-push_boxed_cond : goal.decreases-push_boxed_cond
decreases-push_boxed_cond l = 2 * cond_rank l.cond.now + 1

abbrev pub decreases-push_conds : goal.decreases-push_conds
decreases-push_conds l = 2 * conds_rank l.conds.now + 1

abbrev pub invariant-push_conds-loop-cond : goal.invariant-push_conds-loop-cond
invariant-push_conds-loop-cond l =
    l.all.items ++ read_by_list (map cond_tree (drop l.cond-index l.cond-items)) ≡ l.initial.all.items ++ read_by_list l.conds
