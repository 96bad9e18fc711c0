use Rattle.std.proofs.Common.{◌≡◌, flat_map, take}
use Rattle.ps_marks.specs.Making.{adds_in}
use Rattle.ps_marks.proofs.making.adds_of.Given as goal

abbrev pub invariant-loop-spread : goal.invariant-loop-spread
invariant-loop-spread l = l.adds.items ≡ flat_map adds_in (take l.spread-index l.effects)
