use Rattle.std.proofs.Common.{◌≡◌, take, fold}
use Rattle.ps_problem.specs.Puts.{with_held}
use Rattle.ps_problem.proofs.problem.values.Values.put_back_all.Given as goal

abbrev pub invariant-loop-term : goal.invariant-loop-term
invariant-loop-term l = l.self ≡ fold with_held l.fn.self (take l.term-index l.held)
