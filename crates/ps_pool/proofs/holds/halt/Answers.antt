use Rattle.std.proofs.Common.{ap}
use Rattle.ps_board.specs.declared.board.Shown.{Shown}
use Rattle.ps_pool.proofs.Seated.{gives-same, stays}
use Rattle.ps_pool.proofs.Working.{nothing-by}
use Rattle.ps_pool.proofs.holds.halt.Goals as goal

pub give-requires-clause-grows : goal.give-requires-clause-grows
give-requires-clause-grows g c =
    gives-same c.args.seat.now c.take-board.new.seat c.take-board.result.entries c.halt.new.self.entries c.take-board.ensures.seat (ap (λ (b : Shown). b.entries) c.halt.ensures)

pub returns-clause-seat : goal.returns-clause-seat
returns-clause-seat g c =
    stays c.args.book.now c.args.seat.now c.take-board.new.seat c.give.new.seat c.args.seat.now.hand c.take-board.result.entries c.halt.new.self.entries c.requires.seat c.take-board.ensures.seat
    c.take-board.ensures.begins (nothing-by c.args.seat.now.hand c.take-board.result.entries c.halt.new.self.entries (ap (λ (b : Shown). b.entries) c.halt.ensures)) c.give.ensures
