use Rattle.std.proofs.Common.{◌≡◌, take, fold}
use Rattle.ps_action.specs.Effects.{with_value}
use Rattle.ps_problem.proofs.problem.values.Values.insert_all.Given as goal

abbrev pub invariant-loop-term : goal.invariant-loop-term
invariant-loop-term l = l.self ≡ fold with_value l.fn.self (take l.term-index l.ready)
