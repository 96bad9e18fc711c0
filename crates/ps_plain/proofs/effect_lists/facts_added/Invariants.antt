use Rattle.std.proofs.Common.{◌≡◌, drop, filter_map, fold}
use Rattle.std.specs.BTreeSet.{insert_key}
use Rattle.ps_world.specs.Facts.{fact_cmp}
use Rattle.ps_action.specs.Effects.{added_by}
use Rattle.ps_plain.proofs.effect_lists.facts_added.Given as goal

abbrev pub invariant-loop-effect : goal.invariant-loop-effect
invariant-loop-effect l =
    fold (insert_key fact_cmp) l.all.items (filter_map added_by (drop l.effect-index l.effects)) ≡ fold (insert_key fact_cmp) l.initial.all.items (filter_map added_by l.effects)
