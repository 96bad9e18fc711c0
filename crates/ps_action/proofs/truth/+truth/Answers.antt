use Rattle.std.proofs.Common.{ap, arith}
use Rattle.ps_world.specs.Trees.{conds_rank}
use Rattle.ps_world.proofs.CondRanks.{rank_in}
use Rattle.ps_action.proofs.truth.+truth.Goals as goal

pub all_true_with-is_true_with-requires : goal.all_true_with-is_true_with-requires
all_true_with-is_true_with-requires g t c κs within =
    let slice = c.as_slice-cond-items in
    (omega (arith, rank_in slice.result.now c.loop-cond.cond-index c.cond-item.result (omega arith) c.cond-item.is, ap conds_rank slice.ensures), within)

pub any_true_with-is_true_with-requires : goal.any_true_with-is_true_with-requires
any_true_with-is_true_with-requires g t c κs within =
    let slice = c.as_slice-cond-items in
    (omega (arith, rank_in slice.result.now c.loop-cond.cond-index c.cond-item.result (omega arith) c.cond-item.is, ap conds_rank slice.ensures), within)
