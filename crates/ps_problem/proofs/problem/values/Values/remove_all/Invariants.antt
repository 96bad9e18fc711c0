use Rattle.std.proofs.Common.{◌≡◌, take, fold}
use Rattle.ps_problem.specs.Puts.{without_term}
use Rattle.ps_problem.proofs.problem.values.Values.remove_all.Given as goal

abbrev pub invariant-loop-term : goal.invariant-loop-term
invariant-loop-term l = l.self ≡ fold without_term l.fn.self (take l.term-index l.terms)
