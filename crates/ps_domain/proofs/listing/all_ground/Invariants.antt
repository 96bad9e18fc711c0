use Rattle.std.proofs.Common.{◌≡◌, ◌++◌, drop}
use Rattle.std.specs.List.{flat_map}
use Rattle.ps_action.specs.Grounding.{all_of_action, all_ground}
use Rattle.ps_domain.proofs.listing.all_ground.Given as goal

abbrev pub invariant-loop-action : goal.invariant-loop-action
invariant-loop-action l = l.all.items ++ flat_map (all_of_action l.expert l.instances) (drop l.action-index l.action-items) ≡ all_ground l.expert l.instances
