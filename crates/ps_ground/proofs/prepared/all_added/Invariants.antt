use Rattle.std.proofs.Common.{◌≡◌, List, filter_map, flat_map, fold, drop}
use Rattle.std.specs.BTreeSet.{insert_key}
use Rattle.ps_world.specs.Facts.{fact_cmp}
use Rattle.ps_world.specs.declared.facts.Fact.{Fact}
use Rattle.ps_action.specs.Effects.{added_by}
use Rattle.ps_ground.specs.Prepared.{put_alone, with_at}
use Rattle.ps_ground.specs.Atoms.{AddAtoms}
use Rattle.ps_ground.proofs.prepared.all_added.Given as goal

-- where all add atoms alone, so do those that are left, and the places so far, with those that are left, add what all do
abbrev pub invariant-loop-effect : goal.invariant-loop-effect
invariant-loop-effect l =
    AddAtoms l.atoms (flat_map (put_alone l.args) l.effects)
    → AddAtoms l.atoms (flat_map (put_alone l.args) (drop l.effect-index l.effects))
    × ((fs : List Fact) → fold (insert_key fact_cmp) (fold (with_at l.atoms) fs l.places.items) (filter_map added_by (flat_map (put_alone l.args) (drop l.effect-index l.effects))) ≡ fold (insert_key fact_cmp) fs (filter_map added_by (flat_map (put_alone l.args) l.effects)))
