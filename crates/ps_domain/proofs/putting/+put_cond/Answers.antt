use Rattle.std.proofs.Common.{ap, arith}
use Rattle.ps_world.specs.Trees.{all_of, any_of, conds_rank}
use Rattle.ps_world.proofs.CondRanks.{rank_in}
use Rattle.ps_domain.proofs.PutParts.{put_all}
use Rattle.ps_domain.proofs.putting.+put_cond.Goals as goal

pub put_cond-returns-in_ok-put_conds-in-And-clause-tree : goal.put_cond-returns-in_ok-put_conds-in-And-clause-tree
put_cond-returns-in_ok-put_conds-in-And-clause-tree t c =
    rw (c.in-And.is, c.in_ok-put_conds-in-And.ensures) (ap all_of (put_all c.args.env.now c.in-And.parts))

pub put_cond-returns-in_ok-put_conds-in-Or-clause-tree : goal.put_cond-returns-in_ok-put_conds-in-Or-clause-tree
put_cond-returns-in_ok-put_conds-in-Or-clause-tree t c =
    rw (c.in-Or.is, c.in_ok-put_conds-in-Or.ensures) (ap any_of (put_all c.args.env.now c.in-Or.parts))

pub put_conds-put_cond-requires : goal.put_conds-put_cond-requires
put_conds-put_cond-requires t c =
    let slice = c.as_slice-cond-items in
    (omega (arith, rank_in slice.result.now c.loop-cond.cond-index c.cond-item.result (omega arith) c.cond-item.is, ap conds_rank slice.ensures), tt)
