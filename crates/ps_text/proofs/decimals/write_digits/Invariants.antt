use Rattle.ps_text.proofs.Printed.{Written}
use Rattle.ps_text.proofs.decimals.write_digits.Given as goal

abbrev pub invariant-loop-rest : goal.invariant-loop-rest
invariant-loop-rest l = Written l.fn.n l.fn.end l.fn.text l.rest l.at l.text

abbrev pub decreases-loop-rest : goal.decreases-loop-rest
decreases-loop-rest l = l.rest
