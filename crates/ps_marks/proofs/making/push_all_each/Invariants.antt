use Rattle.std.proofs.Common.{◌≡◌, ◌++◌, flat_map, take}
use Rattle.ps_marks.specs.Making.{adds_each}
use Rattle.ps_marks.proofs.making.push_all_each.Given as goal

abbrev pub invariant-loop-part : goal.invariant-loop-part
invariant-loop-part l = l.adds.items ≡ l.fn.adds.items ++ flat_map adds_each (take l.part-index l.parts)
