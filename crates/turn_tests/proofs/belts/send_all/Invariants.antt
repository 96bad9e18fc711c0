use Rattle.std.proofs.Common.{◌≡◌}
use Rattle.turn_tests.proofs.belts.send_all.Given as goal

abbrev pub invariant-loop-r : goal.invariant-loop-r
invariant-loop-r g l = l.desk.belt ≡ l.initial.desk.belt

abbrev pub invariant-loop-time : goal.invariant-loop-time
invariant-loop-time g l = l.desk.belt ≡ l.initial.desk.belt
