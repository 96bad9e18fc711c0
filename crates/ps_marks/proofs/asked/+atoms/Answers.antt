use Rattle.std.proofs.Common.{ap, arith}
use Rattle.ps_world.specs.Trees.{conds_rank}
use Rattle.ps_world.proofs.CondRanks.{rank_in}
use Rattle.ps_marks.proofs.asked.+atoms.Goals as goal

pub push_all_atoms-push_atoms-requires : goal.push_all_atoms-push_atoms-requires
push_all_atoms-push_atoms-requires t c =
    let slice = c.as_slice-cond-items in
    (omega (arith, rank_in slice.result.now c.loop-cond.cond-index c.cond-item.result (omega arith) c.cond-item.is, ap conds_rank slice.ensures), tt)
