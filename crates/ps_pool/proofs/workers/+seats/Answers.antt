use denote.Ref.{NamedLft}
use denote.RattleType.{RattleType}
use denote.Param.Send.{IsSend, IsSync, sendable}
use Rattle.std.proofs.Crossing.{crosses}
use Rattle.std.specs.contracts.option.Option as Option
use Rattle.atomic_table.proofs.shared.Seat.TheSendSync as token
use Rattle.atomic_table.specs.contracts.shared.Seat as Token
use Rattle.ps_turn.specs.contracts.book.TurnBook as TurnBook
use Rattle.ps_turn.specs.contracts.seat.Seat as Seat
use Rattle.ps_turn.specs.contracts.view.View as View
use Rattle.ps_turn.proofs.book.TurnBook.TheSendSync as book
use Rattle.ps_board.specs.contracts.board.Board as Board
use Rattle.ps_board.specs.contracts.board.BoardGrows.TheImpl.{ghosts}
use Rattle.ps_pool.specs.contracts.crew.Crew as Crew
use Rattle.ps_domain.proofs.Sends.{expert_sync}
use Rattle.ps_pool.proofs.Sends.{board_send}
use Rattle.ps_pool.proofs.outline.Who.TheSendSync as who
use Rattle.ps_pool.proofs.workers.+seats.Goals as goal

-- A search from the types alone stops at its limits, so each layer of a seat has its own.
slot_send : IsSend (Option.the_row Board.the_row)
slot_send = search (sendable, board_send) depth 12

token_send : IsSend (Token.the_row (Option.the_row Board.the_row) View.the_row)
token_send = token.the_send (Option.the_row Board.the_row) View.the_row slot_send

seat_send : IsSend (Seat.the_row Board.the_row ghosts)
seat_send = search (sendable, crosses, token_send) depth 20 fits 8000

book_sync : IsSync (TurnBook.the_row Board.the_row ghosts)
book_sync = book.the_sync Board.the_row ghosts board_send

-- What the workers of a run share may be shared where the solver and the gate may be.
crew_sync : (ℓ : NamedLft) (S G : RattleType) → IsSync S → IsSync G → IsSync (Crew.the_row ℓ S G)
crew_sync ℓ S G s g = search (sendable, crosses, expert_sync, who.the_field_sync) depth 20 fits 8000

pub work_beside-join_mut-requires-send-F : goal.work_beside-join_mut-requires-send-F
work_beside-join_mut-requires-send-F g t c κs within = search (sendable, seat_send, book_sync, crew_sync) depth 16
