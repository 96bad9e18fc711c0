use Rattle.std.proofs.Common.{◌≡◌, drop, flat_map, fold}
use Rattle.std.specs.BTreeSet.{insert_key}
use Rattle.ps_world.specs.Names.{name_cmp}
use Rattle.ps_ground.specs.Fixed.{heads_in}
use Rattle.ps_ground.proofs.fixed.add_list_heads.Given as goal

abbrev pub invariant-loop-spread : goal.invariant-loop-spread
invariant-loop-spread l =
    fold (insert_key name_cmp) l.heads.keys (flat_map heads_in (drop l.spread-index l.effects)) ≡ fold (insert_key name_cmp) l.initial.heads.keys (flat_map heads_in l.effects)
