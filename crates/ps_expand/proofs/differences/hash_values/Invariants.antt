use Rattle.std.proofs.Common.{◌≡◌, drop, fold}
use Rattle.ps_expand.specs.Orders.{values_fed}
use Rattle.ps_expand.proofs.differences.hash_values.Given as goal

abbrev pub invariant-loop-number : goal.invariant-loop-number
invariant-loop-number g l = fold g.H.Hasher.write l.state (values_fed (drop l.number-index l.values)) ≡ fold g.H.Hasher.write l.initial.state (values_fed l.values)
