use Rattle.std.proofs.Common.{◌≡◌, [], Some, take, fold}
use Rattle.std.specs.List.{AllByRecursion}
use Rattle.std.specs.Map.{lookup}
use Rattle.ps_world.specs.Names.{same_name}
use Rattle.ps_action.specs.Grounding.{with_named}
use Rattle.ps_ground.proofs.Rising.{AreUnder}
use Rattle.ps_ground.proofs.acts.rise.Given as goal

-- the names so far are below the bound, stand in their order, and are found where they stand
abbrev pub invariant-loop-name : goal.invariant-loop-name
invariant-loop-name l = record {
  under : AreUnder l.bound (take l.name-index l.instances);
  same : fold with_named [] (take l.name-index l.instances) ≡ take l.name-index l.instances;
  first : AllByRecursion (λ i. lookup (same_name i.0) l.instances ≡ Some i.1) (take l.name-index l.instances);
}
