use Rattle.std.proofs.Common.{◌≡◌, take}
use Rattle.ps_problem.specs.Puts.{fresh_in}
use Rattle.ps_problem.proofs.problem.facts.Facts.fresh.Given as goal

abbrev pub invariant-loop-fact : goal.invariant-loop-fact
invariant-loop-fact l = l.fresh.items ≡ fresh_in l.self (take l.fact-index l.adds)
