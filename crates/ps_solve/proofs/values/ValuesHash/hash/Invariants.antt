use Rattle.std.proofs.Common.{◌≡◌, flat_map, fold, map}
use Rattle.std.specs.Map.Iter.{deref_pair}
use Rattle.std.specs.Hash as fed
use Rattle.ps_solve.proofs.values.ValuesHash.hash.Given as goal

abbrev pub invariant-loop-number : goal.invariant-loop-number
invariant-loop-number g l = l.state ≡ fold g.H.Hasher.write l.initial.state (flat_map (λ v. fed.i64 v.1) (map deref_pair l.yielded))
