use Rattle.std.proofs.Common.{◌≡◌}
use Rattle.ps_turn.proofs.book.TurnBook.take.Given as goal

abbrev pub invariant-loop : goal.invariant-loop
invariant-loop g l = l.seat ≡ l.initial.seat
