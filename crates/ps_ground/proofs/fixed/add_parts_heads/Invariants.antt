use Rattle.std.proofs.Common.{◌≡◌, drop, flat_map, fold}
use Rattle.std.specs.BTreeSet.{insert_key}
use Rattle.ps_world.specs.Names.{name_cmp}
use Rattle.ps_ground.specs.Fixed.{heads_in_part}
use Rattle.ps_ground.proofs.fixed.add_parts_heads.Given as goal

abbrev pub invariant-loop-part : goal.invariant-loop-part
invariant-loop-part l =
    fold (insert_key name_cmp) l.heads.keys (flat_map heads_in_part (drop l.part-index l.parts)) ≡ fold (insert_key name_cmp) l.initial.heads.keys (flat_map heads_in_part l.parts)
