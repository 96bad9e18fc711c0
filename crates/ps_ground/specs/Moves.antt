-- Moves from node to node, where a node is a state with the acts that lead to it.
use Rattle.std.specs.Prelude.{Option, option_map, List, [], ◌∷◌, ◌++◌, filter_map}
use Rattle.std.specs.Result.{result_ok}
use Rattle.ps_world.specs.declared.domains.Domain.{Domain}
use Rattle.ps_world.specs.declared.known.Knowledge.{Knowledge}
use Rattle.ps_action.specs.Grounding.{ground_act}
use Rattle.ps_action.specs.Search.{possible_acts}
use Rattle.ps_action.specs.declared.acts.Act.{Act}
use Rattle.ps_action.specs.declared.acts.GroundAction.{GroundAction}
use Rattle.ps_ground.specs.States.{State, stepped}

-- a state, with the acts that lead to it
pub record Node : Type 0 where
  pub state : State
  pub path : List Act

-- the ground actions of the possible acts: an act says its action by its name alone, so that it means the first of that name
abbrev pub grounds : Domain → Knowledge → List GroundAction
grounds d k = filter_map (λ act. result_ok (ground_act d k.instances act)) (possible_acts d k)

-- the node that a ground action leads to from a node, if no part of its step fails
abbrev pub move : Domain → Knowledge → Node → GroundAction → Option Node
move d k n g = option_map (λ s. record { state = s; path = n.path ++ g.act ∷ [] }) (stepped d k n.state g)

-- the nodes that these ground actions lead to from a node, in order
abbrev pub moves : Domain → Knowledge → List GroundAction → Node → List Node
moves d k gs n = filter_map (move d k n) gs
