use Rattle.std.proofs.Common.{◌≡◌, drop, fold}
use Rattle.ps_action.specs.Effects.{with_value}
use Rattle.ps_solve.proofs.values.Values.insert_all.Given as goal

abbrev pub invariant-loop-term : goal.invariant-loop-term
invariant-loop-term l = fold with_value l.self (drop l.term-index l.ready) ≡ fold with_value l.initial.self l.ready
