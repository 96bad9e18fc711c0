use Rattle.std.proofs.Common.{◌≡◌, false, [], refl, sym, ap, ◌∙◌, arith}
use Rattle.std.proofs.lemmas.List.{append-nil}
use Rattle.std.proofs.lemmas.List.Elements.{All-nil}
use Rattle.ps_machine.specs.declared.journal.Entry.{Entry}
use Rattle.ps_turn.specs.Books.{Book}
use Rattle.ps_turn.specs.declared.view.View.{View}
use Rattle.ps_turn.proofs.Keeps.{begin_allowed, give_allowed}
use Rattle.ps_turn.proofs.Tokens.{begun_token}
use Rattle.ps_turn.proofs.book.TurnBook.begin.Goals as goal

pub store-requires : goal.store-requires
store-requires g c =
    let key = c.self.inside.table.shared.key in
    let me = c.args.first.me in
    let view = ap (λ m. m.0) c.requires.token.1 in (
      c.requires.token.0 ∙ sym (ap (λ (b : Book). b.identity) c.self.view_is),
      (let w = c.self.invariant.0 in omega arith),
      begin_allowed g.V.Grows.history g.V.Grows.input record { seats = key.seats; base = g.V.Grows.history key.opened.value; input = g.V.Grows.input key.opened.value } _ _ me.0 me
          (ap (λ slots. (me.0, slots)) (ap (λ m. m.1) c.requires.token.1)) (ap (λ (v : View). v.hand) view) (ap (λ (v : View). v.opening) view),
    )

pub store-requires-2 : goal.store-requires-2
store-requires-2 g c =
    let key = c.self.inside.table.shared.key in
    let history = g.V.Grows.history in
    let input = g.V.Grows.input in
    let me = c.args.first.me in
    let view = ap (λ m. m.0) c.requires.token.1 in
    let first : me.0.hand ≡ 1 = ap (λ (v : View). v.hand) view in
    let sees : history c.args.value ≡ me.0.seen = c.requires.value.0 ∙ sym (ap (λ (v : View). v.seen) view) in (
      c.exchange-slot.ensures.0 ∙ (c.store.ensures.0 ∙ (c.requires.token.0 ∙ sym (ap (λ (b : Book). b.identity) c.self.view_is))),
      (let w = c.self.invariant.0 in omega arith),
      give_allowed history input record { seats = key.seats; base = history key.opened.value; input = input key.opened.value } _ _ record me.0 { opening = false } c.args.value c.exchange-slot.new.seat.me
          (begun_token me c.store.new.seat.me c.exchange-slot.new.seat.me c.args.value c.store.ensures.2 c.exchange-slot.ensures.3)
          (omega arith) (ap (λ (v : View). v.holds) view) refl
          (c.requires.value.1 ∙ sym (ap (λ (b : Book). b.input) c.self.view_is))
          ([], sees ∙ sym (append-nil me.0.seen), All-nil (λ (e : Entry). e.hand ≡ me.0.hand)),
    )
