use Rattle.ps_board.specs.Board.{observing}
use Rattle.call_tests.proofs.Keeping.{keeps}
use Rattle.call_tests.proofs.replans.let_edit.Goals as goal

pub returns-in_ok-observer_turn-clause-kept : goal.returns-in_ok-observer_turn-clause-kept
returns-in_ok-observer_turn-clause-kept c =
    keeps c.args.board.now c.observer_turn.new.self 1 (observing c.args.board.now 0) c.in_ok-observer_turn.ensures.did
