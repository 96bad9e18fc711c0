use Rattle.std.proofs.Common.{◌≡◌, ◌++◌, drop, filter, map}
use Rattle.ps_world.specs.Knowledge.{is_below}
use Rattle.ps_problem.proofs.problem.instances.Instances.list_below.Given as goal

abbrev pub invariant-loop-name : goal.invariant-loop-name
invariant-loop-name l =
    l.found.items ++ map (λ i. i.0) (filter (λ i. is_below l.expert i.1 l.kind) (drop l.name-index l.name-items)) ≡ map (λ i. i.0) (filter (λ i. is_below l.expert i.1 l.kind) l.name-items)
