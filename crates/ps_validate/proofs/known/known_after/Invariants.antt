use Rattle.std.proofs.Common.{◌≡◌, take}
use Rattle.ps_validate.specs.Verdicts.{known_after}
use Rattle.ps_validate.proofs.known.known_after.Given as goal

abbrev pub invariant-loop-line : goal.invariant-loop-line
invariant-loop-line l = l.problem ≡ known_after l.expert (take l.line-index l.lines)
