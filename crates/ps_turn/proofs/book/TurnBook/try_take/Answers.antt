use Rattle.std.proofs.Common.{◌<◌, subst, sym, ap, ◌∙◌, arith}
use Rattle.std.specs.Prelude.{Some}
use Rattle.ps_turn.specs.Books.{Book, Place}
use Rattle.ps_turn.proofs.Keeps.{take_allowed}
use Rattle.ps_turn.proofs.Tokens.{free_token, one_slot}
use Rattle.ps_turn.proofs.book.TurnBook.try_take.Goals as goal

pub compare_exchange-found-requires : goal.compare_exchange-found-requires
compare_exchange-found-requires g c =
    let me = c.seat.inside.token.me in
    let seat = c.seat.invariant in
    let key = c.self.inside.table.shared.key in
    let history = g.V.Grows.history in
    let input = g.V.Grows.input in
    let same = ap (λ (p : Place). p.book) c.seat.view_is ∙ (c.requires.0 ∙ sym c.self.view_is) in
    let aside = ap (λ (p : Place). p.holds) c.seat.view_is ∙ c.requires.1 in (
      ap (λ (b : Book). b.identity) same,
      (let w = c.self.invariant.0 in omega arith),
      take_allowed history input record { seats = key.seats; base = history key.opened.value; input = input key.opened.value } _ _ c.from-hand.result me.0 me
          (free_token me seat.slots_are aside) (c.from-hand.ensures ∙ sym seat.hand_is) (subst (λ n. 0 < n) (sym seat.hand_is) seat.live) seat.filled,
    )

pub exchange-slot-requires : goal.exchange-slot-requires
exchange-slot-requires g c =
    let found = c.compare_exchange-found.ensures.2.won c.if-found-ne0.false in
    let same = ap (λ (p : Place). p.book) c.seat.view_is ∙ (c.requires.0 ∙ sym c.self.view_is) in (
      c.compare_exchange-found.ensures.0 ∙ ap (λ (b : Book). b.identity) same,
      (Some found.value, one_slot c.compare_exchange-found.new.seat.me.1 (Some found.value) (ap (λ m. m.1) found.me_is)),
    )
