use Rattle.std.proofs.Common.{◌≡◌, subst}
use Rattle.std.specs.Prelude.{IfOk}
use Rattle.ps_board.specs.Board.{tick_answer}
use Rattle.ps_board.specs.declared.board.Shown.{Shown}
use Rattle.ps_pool.proofs.ordered.tick_with_room.Goals as goal

pub returns-clause-answer : goal.returns-clause-answer
returns-clause-answer c = subst (λ (b : Shown). IfOk c.tick.result (λ t. t ≡ tick_answer b)) c.make_room.ensures c.tick.ensures.answer
