use Rattle.std.proofs.Common.{◌≡◌, None, length}
use Rattle.ps_solve.proofs.Attempting.{IsTriedTo}
use Rattle.ps_solve.proofs.expansion.Expansion.attempt_each.Given as goal

-- those before are tried
abbrev pub invariant-loop-i : goal.invariant-loop-i
invariant-loop-i l = record {
  tried : IsTriedTo l.self l.initial.reached l.reached None l.i;
  wide : length l.next.flags ≡ length l.self.task.now.grounds.atoms;
}
