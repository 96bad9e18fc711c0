use Rattle.std.proofs.Common.{◌≡◌, filter, map}
use Rattle.ps_world.specs.Knowledge.{is_among}
use Rattle.ps_problem.proofs.problem.facts.naming_each.Given as goal

abbrev pub invariant-loop-fact : goal.invariant-loop-fact
invariant-loop-fact l = l.found.items ≡ filter (λ f. is_among l.name f.args) (map (λ f. f.now) l.yielded)
