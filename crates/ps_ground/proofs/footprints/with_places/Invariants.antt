use Rattle.std.proofs.Common.{◌≡◌, drop, fold}
use Rattle.ps_ground.specs.Independence.{with_bit}
use Rattle.ps_ground.proofs.footprints.with_places.Given as goal

abbrev pub invariant-loop-place : goal.invariant-loop-place
invariant-loop-place l = fold with_bit l.bits (drop l.place-index l.places) ≡ fold with_bit l.initial.bits l.places
