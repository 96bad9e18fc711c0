use Rattle.std.proofs.Common.{arith}
use Rattle.ps_turn.proofs.Deals.{opens}
use Rattle.ps_turn.proofs.book.TurnBook.open.Goals as goal

pub vacant-requires : goal.vacant-requires
vacant-requires g c =
    let founding = c.of-founding.result in
    let seats = c.of-founding.ensures.0 in
    let least = c.requires.0 in
    opens g.V.Grows.history g.V.Grows.input record { seats = founding.seats; base = g.V.Grows.history founding.opened.value; input = g.V.Grows.input founding.opened.value } (omega arith)
