use Rattle.std.proofs.Common.{◌≡◌, ◌++◌, flat_map, take}
use Rattle.ps_ground.specs.Atoms.{may_add_part}
use Rattle.ps_ground.proofs.atoms.push_parts_adds.Given as goal

abbrev pub invariant-loop-part : goal.invariant-loop-part
invariant-loop-part l = l.facts.items ≡ l.fn.facts.items ++ flat_map (may_add_part l.env) (take l.part-index l.parts)
