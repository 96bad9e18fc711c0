use Rattle.std.proofs.Common.{◌≡◌, fold, filter_map, drop}
use Rattle.std.specs.BTreeSet.{insert_key}
use Rattle.ps_world.specs.Names.{name_cmp}
use Rattle.ps_ground.specs.Fixed.{head_added}
use Rattle.ps_ground.proofs.fixed.add_heads.Given as goal

abbrev pub invariant-loop-effect : goal.invariant-loop-effect
invariant-loop-effect l =
    fold (insert_key name_cmp) l.heads.keys (filter_map head_added (drop l.effect-index l.effects)) ≡ fold (insert_key name_cmp) l.initial.heads.keys (filter_map head_added l.effects)
