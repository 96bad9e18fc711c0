use Rattle.std.proofs.Common.{◌≡◌, ◌++◌, drop, filter, not}
use Rattle.ps_world.specs.Knowledge.{same_fact}
use Rattle.ps_plain.proofs.lists.facts_but.Given as goal

abbrev pub invariant-loop-there : goal.invariant-loop-there
invariant-loop-there l = l.kept.items ++ filter (λ g. not (same_fact l.fact g)) (drop l.there-index l.facts) ≡ filter (λ g. not (same_fact l.fact g)) l.facts
