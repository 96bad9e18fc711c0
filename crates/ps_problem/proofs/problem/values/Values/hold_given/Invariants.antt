use Rattle.std.proofs.Common.{◌≡◌, ◌++◌, take}
use Rattle.std.specs.Map.{keys_of}
use Rattle.ps_problem.specs.Puts.{held_in}
use Rattle.ps_problem.proofs.problem.values.Values.hold_given.Given as goal

abbrev pub invariant-loop-term : goal.invariant-loop-term
invariant-loop-term l = l.held.items ≡ l.initial.held.items ++ held_in l.self (keys_of (take l.term-index l.ready))
