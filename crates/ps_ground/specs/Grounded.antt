-- What the ground actions of a problem come to, where those that lead nowhere are left out.
use Rattle.std.specs.Prelude.{◌≡◌, ◌≤◌, List, flat_map, length}
use Rattle.ps_world.specs.declared.domains.Domain.{Domain}
use Rattle.ps_world.specs.declared.facts.Fact.{Fact}
use Rattle.ps_world.specs.declared.known.Knowledge.{Knowledge}
use Rattle.ps_action.specs.Grounding.{all_ground, most_ground}
use Rattle.ps_action.specs.declared.acts.Act.{Act}
use Rattle.ps_ground.specs.Atoms.{AreAtoms, IsOver, adds}
use Rattle.ps_ground.specs.Fitting.{AreFit, grounds_of}
use Rattle.ps_ground.specs.Fixed.{possible_facts}
use Rattle.ps_ground.specs.Moves.{Node, grounds, moves}
use Rattle.ps_ground.specs.Prepared.{AreSound, successor_nodes}
use Rattle.ps_ground.specs.declared.prepared.Prepared.{Prepared}

-- Acts that can be grounded and lead to the same nodes as all possible acts, from each node whose facts may ever be known. There aren't
-- too many ground actions.
pub record AreUseful (d : Domain) (k : Knowledge) (acts : List Act) : Type 0 where
  pub counted : length (all_ground d k.instances) ≤ most_ground
  pub few : length acts ≤ most_ground
  pub fit : AreFit d k acts
  pub adds : AreAtoms (possible_facts d k) (flat_map (adds d k) (grounds_of d k acts))
  pub moves : (n : Node) → IsOver (possible_facts d k) n.state → moves d k (grounds_of d k acts) n ≡ moves d k (grounds d k) n

-- Prepared ground actions that lead to the same nodes as all ground actions, from each node over these atoms, among which are the facts
-- that are known at first. There aren't too many ground actions.
pub record AreGrounded (d : Domain) (k : Knowledge) (atoms : List Fact) (ps : List Prepared) : Type 0 where
  pub counted : length (all_ground d k.instances) ≤ most_ground
  pub few : length ps ≤ most_ground
  pub first : AreAtoms atoms k.facts
  pub sound : AreSound d k atoms ps
  pub moves : (n : Node) → IsOver atoms n.state → successor_nodes d k atoms ps n ≡ moves d k (grounds d k) n
