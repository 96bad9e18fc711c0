use Rattle.ps_pool.proofs.Seated.{stays}
use Rattle.ps_pool.proofs.holds.take_turn.Goals as goal

pub returns : goal.returns
returns g c =
    stays c.args.book.now c.args.seat.now c.take-board.new.seat c.give.new.seat _ c.take-board.result.entries c.do_turn-turn.new.board.entries c.requires.seat c.take-board.ensures.seat
    c.take-board.ensures.begins c.do_turn-turn.ensures.grows c.give.ensures
