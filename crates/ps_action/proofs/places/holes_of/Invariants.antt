use Rattle.std.proofs.Common.{◌≡◌, length, map, take}
use Rattle.ps_action.specs.Places.{hole_of}
use Rattle.ps_action.proofs.places.holes_of.Given as goal

abbrev pub invariant-loop-i : goal.invariant-loop-i
invariant-loop-i l = record { room : length l.holes ≡ 6; written : take l.i l.holes ≡ map hole_of (take l.i l.terms) }
