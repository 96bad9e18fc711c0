use Rattle.std.proofs.Common.{◌≡◌, ◌+◌, ◌≤◌, length, drop}
use Rattle.std.specs.List.{flat_map}
use Rattle.ps_action.specs.Grounding.{all_of_action, all_ground}
use Rattle.ps_domain.proofs.counting.too_many.Given as goal

abbrev pub invariant-loop-action : goal.invariant-loop-action
invariant-loop-action l = record {
  few : l.count ≤ 50000;
  so_far : l.count + length (flat_map (all_of_action l.expert l.instances) (drop l.action-index l.action-items)) ≡ length (all_ground l.expert l.instances);
}
