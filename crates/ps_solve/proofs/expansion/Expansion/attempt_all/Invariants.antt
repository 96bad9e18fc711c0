use Rattle.std.proofs.Common.{◌≡◌, length}
use Rattle.ps_solve.proofs.Attempting.{IsTriedTo}
use Rattle.ps_solve.proofs.expansion.Expansion.attempt_all.Given as goal

-- those before are tried, but for those that are pruned
abbrev pub invariant-loop-i : goal.invariant-loop-i
invariant-loop-i l = record {
  tried : IsTriedTo l.self l.initial.reached l.reached l.last l.i;
  wide : length l.next.flags ≡ length l.self.task.now.grounds.atoms;
}
