use Rattle.std.proofs.Common.{sym, subst}
use Rattle.ps_pool.specs.Workers.{WasWanted}
use Rattle.ps_pool.proofs.Outs.{wanted-still}
use Rattle.ps_pool.proofs.Seated.{stays}
use Rattle.ps_pool.proofs.holds.answer.Goals as goal

pub do_answer-answered-requires-clause-asked : goal.do_answer-answered-requires-clause-asked
do_answer-answered-requires-clause-asked g c =
    subst (λ i. WasWanted i c.take-board.result.entries c.args.snapshot) (sym c.take-board.ensures.of_input)
    (wanted-still c.args.book.now.input c.args.seat.now.seen c.take-board.result.entries c.take-board.ensures.begins.0 c.args.snapshot c.requires.asked c.take-board.ensures.begins.1)

pub returns : goal.returns
returns g c =
    stays c.args.book.now c.args.seat.now c.take-board.new.seat c.give.new.seat _ c.take-board.result.entries c.do_answer-answered.new.board.entries c.requires.seat c.take-board.ensures.seat
    c.take-board.ensures.begins c.do_answer-answered.ensures.grows c.give.ensures
