use Rattle.std.proofs.Common.{◌≡◌, sym, ap, ◌∙◌, arith}
use Rattle.ps_turn.specs.Books.{Book}
use Rattle.ps_turn.specs.declared.view.View.{View}
use Rattle.ps_turn.proofs.Deals.{split_allowed}
use Rattle.ps_turn.proofs.book.TurnBook.deal_one.Goals as goal

pub split_seat-token-requires : goal.split_seat-token-requires
split_seat-token-requires g c =
    let key = c.self.inside.table.shared.key in
    let me = c.args.first.now.me in
    let view = ap (λ m. m.0) c.requires.token.1 in
    let made : me.0.made ≡ c.args.made = ap (λ (v : View). v.made) view in
    let seats : key.seats ≡ c.args.self.now.seats = ap (λ (b : Book). b.seats) c.self.view_is in
    let room = c.requires.room in (
      c.requires.token.0 ∙ sym (ap (λ (b : Book). b.identity) c.self.view_is),
      (let w = c.self.invariant.0 in omega arith),
      split_allowed g.V.Grows.history g.V.Grows.input record { seats = key.seats; base = g.V.Grows.history key.opened.value; input = g.V.Grows.input key.opened.value } _ me.0
          (ap (λ (v : View). v.hand) view) (ap (λ (v : View). v.holds) view) (omega arith),
    )
