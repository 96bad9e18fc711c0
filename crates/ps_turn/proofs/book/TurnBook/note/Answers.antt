use Rattle.std.proofs.Common.{◌<◌, subst, sym, ap, ◌∙◌, arith}
use Rattle.ps_turn.specs.Books.{Book, Place}
use Rattle.ps_turn.proofs.Joined.{join_allowed}
use Rattle.ps_turn.proofs.Tokens.{free_token}
use Rattle.ps_turn.proofs.book.TurnBook.note.Goals as goal

pub join_seat-requires : goal.join_seat-requires
join_seat-requires g c =
    let key = c.self.inside.table.shared.key in
    let me = c.next.inside.token.me in
    let seat = c.next.invariant in
    let aside = ap (λ (p : Place). p.holds) c.next.view_is ∙ c.requires.free.1 in
    let same = ap (λ (p : Place). p.book) c.next.view_is ∙ (c.requires.free.0 ∙ sym c.self.view_is) in (
      c.requires.token ∙ sym (ap (λ (b : Book). b.identity) c.self.view_is),
      ap (λ (b : Book). b.identity) same,
      ap (λ m. m.1) (free_token me seat.slots_are aside),
      (let w = c.self.invariant.0 in omega arith),
      join_allowed g.V.Grows.history g.V.Grows.input record { seats = key.seats; base = g.V.Grows.history key.opened.value; input = g.V.Grows.input key.opened.value } _ _ c.args.keeper.now.me.0 me.0
          c.requires.live (subst (λ n. 0 < n) (sym seat.hand_is) seat.live) aside seat.alone,
    )
