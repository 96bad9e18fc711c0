use Rattle.std.proofs.Common.{◌≡◌, take, All}
use Rattle.std.specs.Map.{lookup}
use Rattle.ps_world.specs.Knowledge.{same_fact}
use Rattle.ps_problem.proofs.problem.values.Values.are_held.Given as goal

abbrev pub invariant-loop-term : goal.invariant-loop-term
invariant-loop-term l = All (λ h. lookup (same_fact h.0) l.self ≡ h.1) (take l.term-index l.held)
