use Rattle.std.proofs.Common.{◌≡◌, ◌++◌, drop, filter, not}
use Rattle.ps_world.specs.Knowledge.{same_fact}
use Rattle.ps_plain.proofs.lists.values_but.Given as goal

abbrev pub invariant-loop-there : goal.invariant-loop-there
invariant-loop-there l = l.kept.items ++ filter (λ v. not (same_fact l.fact v.0)) (drop l.there-index l.values) ≡ filter (λ v. not (same_fact l.fact v.0)) l.values
