use Rattle.std.proofs.Common.{ap, ◌∙◌}
use Rattle.ps_board.specs.Ticks.{snapshot_of}
use Rattle.ps_pool.proofs.GoingAlone.{alone-wanted}
use Rattle.ps_pool.proofs.alone.take_tick.Goals as goal

pub do_answer-requires-clause-asked : goal.do_answer-requires-clause-asked
do_answer-requires-clause-asked g c =
    alone-wanted c.do_tick.new.board c.in-WantsPlan.snapshot
    (ap (λ i. snapshot_of i c.do_tick.new.board.entries) c.do_tick.ensures.input ∙ c.in_ok-do_tick.ensures.wanted c.in-WantsPlan.snapshot c.in-WantsPlan.is)
