use Rattle.std.proofs.Common.{◌≡◌, ◌++◌, drop, filter, not}
use Rattle.ps_world.specs.Names.{same_name}
use Rattle.ps_plain.proofs.lists.instances_but.Given as goal

abbrev pub invariant-loop-there : goal.invariant-loop-there
invariant-loop-there l = l.kept.items ++ filter (λ i. not (same_name l.name i.0)) (drop l.there-index l.instances) ≡ filter (λ i. not (same_name l.name i.0)) l.instances
