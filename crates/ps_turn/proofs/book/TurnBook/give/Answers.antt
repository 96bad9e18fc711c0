use Rattle.std.proofs.Common.{◌<◌, subst, sym, ap, ◌∙◌, arith}
use Rattle.ps_turn.specs.Books.{Book, Place}
use Rattle.ps_turn.specs.Hands.{GoesOnBy}
use Rattle.ps_turn.proofs.Keeps.{give_allowed}
use Rattle.ps_turn.proofs.Tokens.{filled_token}
use Rattle.ps_turn.proofs.book.TurnBook.give.Goals as goal

pub store-requires : goal.store-requires
store-requires g c =
    let me = c.seat.inside.token.me in
    let seat = c.seat.invariant in
    let key = c.self.inside.table.shared.key in
    let history = g.V.Grows.history in
    let input = g.V.Grows.input in
    let same = ap (λ (p : Place). p.book) c.seat.view_is ∙ (c.requires.book ∙ sym c.self.view_is) in
    let holds = ap (λ (p : Place). p.holds) c.seat.view_is ∙ c.requires.holds in
    let of_input = c.requires.of_input ∙ sym (ap (λ (b : Book). b.input) c.self.view_is) in
    let goes = subst (λ h. GoesOnBy h me.0.seen (history c.args.value)) (ap (λ (p : Place). p.hand) (sym c.seat.view_is) ∙ sym seat.hand_is)
    (subst (λ l. GoesOnBy c.args.seat.now.hand l (history c.args.value)) (ap (λ (p : Place). p.seen) (sym c.seat.view_is)) c.requires.grows) in (
      c.exchange-slot.ensures.0 ∙ ap (λ (b : Book). b.identity) same,
      (let w = c.self.invariant.0 in omega arith),
      give_allowed history input record { seats = key.seats; base = history key.opened.value; input = input key.opened.value } _ _ me.0 c.args.value c.exchange-slot.new.seat.me
          (filled_token me c.exchange-slot.new.seat.me c.args.value c.exchange-slot.ensures.3 seat.slots_are holds)
          (subst (λ n. 0 < n) (sym seat.hand_is) seat.live) holds seat.filled of_input goes,
    )
