use Rattle.std.proofs.Common.{◌≡◌, ◌+◌, ◌*◌, map, take}
use Rattle.ps_world.specs.Trees.{cond_rank, conds_rank}
use Rattle.ps_world.specs.CondViews.{cond_tree}
use Rattle.ps_action.specs.Grounding.{put_cond}
use Rattle.ps_domain.proofs.putting.+put_cond.Given as goal

-- a condition stands below the list or the box that it is in
abbrev pub decreases-put_cond : goal.decreases-put_cond
decreases-put_cond l = 2 * cond_rank (cond_tree l.cond.now)

abbrev pub decreases-put_boxed_cond : goal.decreases-put_boxed_cond
decreases-put_boxed_cond l = 2 * cond_rank l.boxed.now + 1

abbrev pub decreases-put_conds : goal.decreases-put_conds
decreases-put_conds l = 2 * conds_rank l.conds.now + 1

abbrev pub invariant-put_conds-loop-cond : goal.invariant-put_conds-loop-cond
invariant-put_conds-loop-cond l = l.put ≡ map (put_cond l.env) (map cond_tree (take l.cond-index l.cond-items))
