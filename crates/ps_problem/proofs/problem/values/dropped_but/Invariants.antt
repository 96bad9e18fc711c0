use Rattle.std.proofs.Common.{◌≡◌, not, take, filter}
use Rattle.std.specs.List.{list_any}
use Rattle.ps_world.specs.Knowledge.{same_fact}
use Rattle.ps_problem.proofs.problem.values.dropped_but.Given as goal

abbrev pub invariant-loop-term : goal.invariant-loop-term
invariant-loop-term l = l.dropped.items ≡ filter (λ f. not (list_any (same_fact f) l.given)) (take l.term-index l.gone)
