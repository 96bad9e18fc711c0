use Rattle.std.proofs.Common.{ap, arith}
use Rattle.ps_world.specs.Trees.{conds_rank}
use Rattle.ps_world.proofs.CondRanks.{rank_in}
use Rattle.ps_action.proofs.goals.+cond_fault.Goals as goal

pub conds_fault-cond_fault_in-found-requires : goal.conds_fault-cond_fault_in-found-requires
conds_fault-cond_fault_in-found-requires g t c κs within =
    let slice = c.as_slice-cond-items in
    (omega (arith, rank_in slice.result.now c.loop-cond.cond-index c.cond-item.result (omega arith) c.cond-item.is, ap conds_rank slice.ensures), within)
