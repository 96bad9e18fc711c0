use Rattle.std.proofs.Common.{◌≡◌, drop, flat_map, fold}
use Rattle.std.specs.BTreeSet.{insert_key}
use Rattle.ps_world.specs.Names.{name_cmp}
use Rattle.ps_ground.specs.Fixed.{heads_added}
use Rattle.ps_ground.proofs.fixed.add_all_heads.Given as goal

abbrev pub invariant-loop-action : goal.invariant-loop-action
invariant-loop-action l =
    fold (insert_key name_cmp) l.heads.keys (flat_map heads_added (drop l.action-index l.actions)) ≡ fold (insert_key name_cmp) l.initial.heads.keys (flat_map heads_added l.actions)
