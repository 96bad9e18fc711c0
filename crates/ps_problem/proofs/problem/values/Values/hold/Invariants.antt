use Rattle.std.proofs.Common.{◌≡◌, ◌++◌, take}
use Rattle.ps_problem.specs.Puts.{held_in}
use Rattle.ps_problem.proofs.problem.values.Values.hold.Given as goal

abbrev pub invariant-loop-term : goal.invariant-loop-term
invariant-loop-term l = l.held.items ≡ l.initial.held.items ++ held_in l.self (take l.term-index l.terms)
