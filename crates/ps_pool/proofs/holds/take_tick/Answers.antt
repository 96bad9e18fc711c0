use Rattle.ps_pool.proofs.Seated.{stays}
use Rattle.ps_pool.proofs.Working.{ran-still}
use Rattle.ps_pool.proofs.holds.take_tick.Goals as goal

pub do_tick-ticked-requires-clause-ran : goal.do_tick-ticked-requires-clause-ran
do_tick-ticked-requires-clause-ran g c =
    ran-still c.args.seat.now.seen c.take-board.result.entries c.take-board.ensures.begins.0 c.take-board.ensures.begins.1 c.requires.ran

pub returns-clause-seat : goal.returns-clause-seat
returns-clause-seat g c =
    stays c.args.book.now c.args.seat.now c.take-board.new.seat c.give.new.seat _ c.take-board.result.entries c.do_tick-ticked.new.board.entries c.requires c.take-board.ensures.seat
    c.take-board.ensures.begins c.do_tick-ticked.ensures.grows c.give.ensures
