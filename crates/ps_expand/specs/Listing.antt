-- The ground actions among some instances.
use Rattle.std.specs.Prelude.{◌≡◌, ◌≤◌, List, filter_map, length, map}
use Rattle.std.specs.Result.{result_ok}
use Rattle.std.specs.Coded.{Coded-set}
use Rattle.std.proofs.Props.{props}
use Rattle.ps_world.specs.declared.domains.Domain.{Domain}
use Rattle.ps_world.specs.declared.names.Name.{Name}
use Rattle.ps_action.specs.Grounding.{all_ground, ground_act, most_ground}
use Rattle.ps_action.specs.contracts.acts.GroundAction as action
use Rattle.ps_action.specs.declared.acts.GroundAction.{GroundAction}

-- the ground actions of the possible acts among these instances
abbrev pub grounds_in : Domain → List (Name × Name) → List GroundAction
grounds_in d instances = filter_map (λ act. result_ok (ground_act d instances act)) (map (λ g. g.act) (all_ground d instances))

-- these are they, and there aren't too many
pub record AreListed (d : Domain) (instances : List (Name × Name)) (actions : List GroundAction) : Type 0 where
  pub all : actions ≡ grounds_in d instances
  pub few : length (all_ground d instances) ≤ most_ground

action_set : IsSet GroundAction
action_set = Coded-set action.the_row.coded

pub listed_prop : {d : Domain} {instances : List (Name × Name)} {actions : List GroundAction} → IsProp (AreListed d instances actions)
listed_prop = hlevel (props, action_set)
