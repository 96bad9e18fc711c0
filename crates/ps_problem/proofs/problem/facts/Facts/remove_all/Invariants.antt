use Rattle.std.proofs.Common.{◌≡◌, take, fold}
use Rattle.ps_problem.specs.Puts.{without_one}
use Rattle.ps_problem.proofs.problem.facts.Facts.remove_all.Given as goal

abbrev pub invariant-loop-fact : goal.invariant-loop-fact
invariant-loop-fact l = l.self ≡ fold without_one l.fn.self (take l.fact-index l.facts)
