use Rattle.std.proofs.Common.{◌≡◌}
use Rattle.ps_turn.specs.Books.{IsFree}
use Rattle.turn_tests.proofs.turns.take_turns.Given as goal

abbrev pub invariant-loop : goal.invariant-loop
invariant-loop g l = IsFree l.book l.seat × (l.seat.hand ≡ l.initial.seat.hand)
