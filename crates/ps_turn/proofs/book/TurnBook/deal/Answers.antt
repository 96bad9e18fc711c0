use Rattle.std.proofs.Common.{◌∙◌, arith}
use Rattle.ps_turn.proofs.Places.{dealt_more}
use Rattle.ps_turn.proofs.book.TurnBook.deal.Goals as goal

pub loop-made-preserved : goal.loop-made-preserved
loop-made-preserved g c =
    let before = c.loop-made.invariant in
    let pushed = c.push_reserved.ensures in (
      c.deal_one-seat.ensures.token.0,
      c.deal_one-seat.ensures.token.1,
      dealt_more c.args.self.now c.loop-made.made c.loop-made.places.items c.push_reserved.new.self.items c.deal_one-seat.result c.loop-made.auto.made before.2 pushed.items c.deal_one-seat.ensures.seat,
      (let len = before.3 in let more = pushed.len in omega arith),
      pushed.capacity ∙ before.4,
    )
