use Rattle.std.proofs.Common.{◌≡◌, false, sym, ap, ◌∙◌, rules}
use denote.Param.Send.{IsSend, IsSync, sendable}
use Rattle.std.proofs.Crossing.{crosses}
use Rattle.atomic_table.proofs.shared.Seat.TheSendSync as token
use Rattle.ps_turn.proofs.Sends.{sent}
use Rattle.atomic_table.specs.contracts.shared.Seat as Token
use Rattle.std.specs.contracts.option.Option as Option
use Rattle.ps_turn.specs.Books.{Place}
use Rattle.ps_turn.specs.contracts.book.TurnBook as TurnBook
use Rattle.ps_turn.specs.contracts.seat.Seat as Seat
use Rattle.turn_tests.specs.contracts.turns.Log as Log
use Rattle.ps_turn.specs.contracts.view.View as View
use Rattle.turn_tests.specs.contracts.turns.LogGrows.TheImpl.{ghosts}
use Rattle.ps_turn.proofs.book.TurnBook.TheSendSync as book
use Rattle.turn_tests.proofs.turns.run.Goals as goal

-- A search from the types alone stops at its limits, so each layer of a seat has its own.
log_send : IsSend Log.the_row
log_send = search (sendable, crosses, sent) depth 12

slot_send : IsSend (Option.the_row Log.the_row)
slot_send = search (sendable, log_send) depth 12

token_send : IsSend (Token.the_row (Option.the_row Log.the_row) View.the_row)
token_send = token.the_send (Option.the_row Log.the_row) View.the_row slot_send

seat_send : IsSend (Seat.the_row Log.the_row ghosts)
seat_send = search (sendable, crosses, token_send) depth 20 fits 8000

book_sync : IsSync (TurnBook.the_row Log.the_row ghosts)
book_sync = book.the_sync Log.the_row ghosts log_send

pub for_each_mut-requires-send-T : goal.for_each_mut-requires-send-T
for_each_mut-requires-send-T g c κs within = search (sendable, seat_send)

pub for_each_mut-requires-sync-F : goal.for_each_mut-requires-sync-F
for_each_mut-requires-sync-F g c κs within = search (sendable, book_sync) depth 14

pub returns : goal.returns
returns g c = λ i d less.
    let t = (c.for_each_mut.ensures i d less).1 in
    let free = c.requires i d less in
    let worked : (t.after_call.now.book ≡ t.argument.now.book) × (t.after_call.now.hand ≡ t.argument.now.hand) × (t.after_call.now.holds ≡ false) = search rules in (
      (ap (λ (p : Place). p.book) (sym t.left) ∙ (worked.0 ∙ (ap (λ (p : Place). p.book) t.argument_is ∙ free.0)), ap (λ (p : Place). p.holds) (sym t.left) ∙ worked.2),
      ap (λ (p : Place). p.hand) (sym t.left) ∙ (worked.1 ∙ ap (λ (p : Place). p.hand) t.argument_is),
    )
