use Rattle.std.proofs.Common.{◌≡◌, ◌≤◌, ◌+◌, ◌++◌, length, map, take, vec_capacity, vec_len}
use Rattle.ps_world.specs.CondViews.{cond_tree}
use Rattle.ps_action.specs.Grounding.{put_cond, fitting}
use Rattle.ps_domain.proofs.putting.put_list.Given as goal

-- what stands is what was put, and there is room for the rest
abbrev pub invariant-loop-cond : goal.invariant-loop-cond
invariant-loop-cond l = record {
  put : map cond_tree l.put.items ≡ fitting l.params l.args ++ map (put_cond l.args) (map cond_tree (take l.cond-index l.conds));
  room : vec_len l.put + length l.conds ≤ vec_capacity l.put + l.cond-index;
}
