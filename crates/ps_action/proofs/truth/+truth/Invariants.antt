use Rattle.std.proofs.Common.{◌≡◌, ◌+◌, ◌*◌, length, map, drop}
use Rattle.std.specs.List.{list_all, list_any}
use Rattle.ps_world.specs.Trees.{cond_trees, cond_rank, conds_rank}
use Rattle.ps_world.specs.CondViews.{cond_tree}
use Rattle.ps_action.specs.Bindings.{bindings, bindings_from}
use Rattle.ps_action.specs.Truth.{are_true_with, is_one_true_with, is_true_with}
use Rattle.ps_action.proofs.truth.+truth.Given as goal

-- a condition stands below the list, the box or the variables that it is in
abbrev pub decreases-is_true_with : goal.decreases-is_true_with
decreases-is_true_with g l = 10 * cond_rank (cond_tree l.cond.now)

abbrev pub decreases-is_boxed_true_with : goal.decreases-is_boxed_true_with
decreases-is_boxed_true_with g l = 10 * cond_rank l.cond.now + 1

abbrev pub decreases-all_true_with : goal.decreases-all_true_with
decreases-all_true_with g l = 10 * conds_rank l.conds.now + 1

abbrev pub decreases-any_true_with : goal.decreases-any_true_with
decreases-any_true_with g l = 10 * conds_rank l.conds.now + 1

abbrev pub decreases-is_each_true : goal.decreases-is_each_true
decreases-is_each_true g l = 10 * cond_rank l.cond.now + 2 + length l.params.now

abbrev pub decreases-is_some_true : goal.decreases-is_some_true
decreases-is_some_true g l = 10 * cond_rank l.cond.now + 2 + length l.params.now

abbrev pub invariant-all_true_with-loop-cond : goal.invariant-all_true_with-loop-cond
invariant-all_true_with-loop-cond g l =
    are_true_with (g.T.Types.types l.types) (g.K.Known.known l.known) l.env (cond_trees (map cond_tree (drop l.cond-index l.cond-items))) ≡ are_true_with (g.T.Types.types l.types) (g.K.Known.known l.known) l.env (cond_trees l.conds)

abbrev pub invariant-any_true_with-loop-cond : goal.invariant-any_true_with-loop-cond
invariant-any_true_with-loop-cond g l =
    is_one_true_with (g.T.Types.types l.types) (g.K.Known.known l.known) l.env (cond_trees (map cond_tree (drop l.cond-index l.cond-items))) ≡ is_one_true_with (g.T.Types.types l.types) (g.K.Known.known l.known) l.env (cond_trees l.conds)

-- the instances that are left decide
abbrev pub invariant-is_each_true-loop-name : goal.invariant-is_each_true-loop-name
invariant-is_each_true-loop-name g l =
    let d = g.T.Types.types l.types in
    let k = g.K.Known.known l.known in
    list_all (λ e. is_true_with d k e l.cond) (bindings_from d k.instances l.first l.rest l.env (drop l.name-index l.name-items))
    ≡ list_all (λ e. is_true_with d k e l.cond) (bindings d k.instances l.params l.env)

abbrev pub invariant-is_some_true-loop-name : goal.invariant-is_some_true-loop-name
invariant-is_some_true-loop-name g l =
    let d = g.T.Types.types l.types in
    let k = g.K.Known.known l.known in
    list_any (λ e. is_true_with d k e l.cond) (bindings_from d k.instances l.first l.rest l.env (drop l.name-index l.name-items))
    ≡ list_any (λ e. is_true_with d k e l.cond) (bindings d k.instances l.params l.env)
