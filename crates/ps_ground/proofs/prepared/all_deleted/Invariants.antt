use Rattle.std.proofs.Common.{◌≡◌, List, not, filter, flat_map, fold, drop}
use Rattle.std.specs.List.{list_any}
use Rattle.ps_world.specs.declared.facts.Fact.{Fact}
use Rattle.ps_action.specs.Effects.{deletes}
use Rattle.ps_ground.specs.Prepared.{put_alone, without_at}
use Rattle.ps_ground.specs.Atoms.{AreAtoms}
use Rattle.ps_ground.proofs.prepared.all_deleted.Given as goal

-- what the effects that are left delete of what the places so far leave
abbrev pub invariant-loop-effect : goal.invariant-loop-effect
invariant-loop-effect l =
    (fs : List Fact) → AreAtoms l.atoms fs → filter (λ f. not (list_any (deletes f) (flat_map (put_alone l.args) (drop l.effect-index l.effects)))) (fold (without_at l.atoms) fs l.places.items) ≡ filter (λ f. not (list_any (deletes f) (flat_map (put_alone l.args) l.effects))) fs
