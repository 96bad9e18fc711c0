use Rattle.std.proofs.Common.{◌≡◌, ◌++◌, ◌+◌, ◌*◌, map, drop}
use Rattle.ps_world.specs.Trees.{cond_trees, cond_rank, conds_rank}
use Rattle.ps_world.specs.CondViews.{cond_tree}
use Rattle.ps_world.specs.DomainTexts.{conds_text}
use Rattle.ps_print.proofs.conditions.+write_condition.Given as goal

-- a condition stands below the list or the box that it is in
abbrev pub decreases-write_condition : goal.decreases-write_condition
decreases-write_condition l = 3 * cond_rank (cond_tree l.cond.now)

abbrev pub decreases-write_boxed_condition : goal.decreases-write_boxed_condition
decreases-write_boxed_condition l = 3 * cond_rank l.boxed.now + 1

abbrev pub decreases-write_quantified : goal.decreases-write_quantified
decreases-write_quantified l = 3 * cond_rank l.inner.now + 2

abbrev pub decreases-write_conditions : goal.decreases-write_conditions
decreases-write_conditions l = 3 * conds_rank l.conds.now + 1

abbrev pub invariant-write_conditions-loop-cond : goal.invariant-write_conditions-loop-cond
invariant-write_conditions-loop-cond l =
    l.text ++ conds_text l.names l.params (cond_trees (map cond_tree (drop l.cond-index l.cond-items))) ≡ l.initial.text ++ conds_text l.names l.params (cond_trees l.conds)
