use Rattle.std.proofs.Common.{◌≡◌, drop, fold}
use Rattle.ps_expand.specs.Orders.{facts_fed}
use Rattle.ps_expand.proofs.differences.hash_facts.Given as goal

abbrev pub invariant-loop-fact : goal.invariant-loop-fact
invariant-loop-fact g l = fold g.H.Hasher.write l.state (facts_fed (drop l.fact-index l.facts)) ≡ fold g.H.Hasher.write l.initial.state (facts_fed l.facts)
