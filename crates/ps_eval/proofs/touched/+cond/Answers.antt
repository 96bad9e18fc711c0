use Rattle.std.proofs.Common.{ap, arith}
use Rattle.ps_world.specs.Trees.{conds_rank}
use Rattle.ps_world.proofs.CondRanks.{rank_in}
use Rattle.ps_eval.proofs.touched.+cond.Goals as goal

pub push_conds-push_cond-requires : goal.push_conds-push_cond-requires
push_conds-push_cond-requires t c =
    let slice = c.as_slice-cond-items in
    (omega (arith, rank_in slice.result.now c.loop-cond.cond-index c.cond-item.result (omega arith) c.cond-item.is, ap conds_rank slice.ensures), tt)
