use Rattle.std.proofs.Common.{◌≡◌, ◌+◌, ◌≤◌, drop, length, map}
use Rattle.std.specs.List.{flat_map}
use Rattle.ps_action.specs.Grounding.{all_ground, most_ground}
use Rattle.ps_ground.specs.Acts.{acts_with}
use Rattle.ps_ground.specs.Thinned.{GoesOn, IsUseless}
use Rattle.ps_ground.proofs.acts.all_acts.Given as goal

-- the acts so far, with those of the actions that are left, are all but some that lead nowhere, and those counted with those that are left are all
abbrev pub invariant-loop-action : goal.invariant-loop-action
invariant-loop-action l = record {
  few : l.counted ≤ most_ground;
  count : l.counted + length (flat_map (acts_with l.expert l.sorted) (drop l.action-index l.action-items)) ≡ length (all_ground l.expert l.instances);
  thinned : GoesOn (IsUseless l.expert l.fixed.heads.keys l.fixed.facts) (flat_map (acts_with l.expert l.sorted) (drop l.action-index l.action-items)) (map (λ g. g.act) (all_ground l.expert l.instances)) l.all.items;
}
