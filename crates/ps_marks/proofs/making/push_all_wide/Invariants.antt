use Rattle.std.proofs.Common.{◌≡◌, ◌++◌, flat_map, take}
use Rattle.ps_marks.specs.Making.{wide_add}
use Rattle.ps_marks.proofs.making.push_all_wide.Given as goal

abbrev pub invariant-loop-effect : goal.invariant-loop-effect
invariant-loop-effect l = l.adds.items ≡ l.fn.adds.items ++ flat_map wide_add (take l.effect-index l.effects)
