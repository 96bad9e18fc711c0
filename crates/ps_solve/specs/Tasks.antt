-- What is prepared of a problem.
use Rattle.std.specs.Prelude.{◌≡◌, Some, List, [], ◌∷◌}
use Rattle.std.proofs.Props.{props}
use Rattle.std.specs.Coded.{Coded-set, Unit-prop, ×_prop}
use Rattle.ps_world.specs.contracts.conditions.Cond as goal
use Rattle.ps_world.specs.contracts.facts.Fact as fact
use Rattle.ps_world.specs.contracts.numbers.Num as num
use Rattle.ps_world.specs.declared.numbers.Num.{Num}
use Rattle.ps_action.specs.contracts.acts.Act as act
use Rattle.ps_action.specs.declared.acts.Act.{Act}
use Rattle.ps_world.specs.declared.conditions.Cond.{Cond}
use Rattle.ps_world.specs.declared.domains.Domain.{Domain}
use Rattle.ps_world.specs.declared.facts.Fact.{Fact}
use Rattle.ps_world.specs.declared.known.Knowledge.{Knowledge}
use Rattle.ps_ground.specs.Goals.{MeansGoal}
use Rattle.ps_ground.specs.Grounded.{AreGrounded}
use Rattle.ps_ground.specs.Moves.{Node}
use Rattle.ps_ground.specs.Prepared.{AreSound, IsSound, IsSoundChange}
use Rattle.ps_ground.specs.States.{State}
use Rattle.ps_ground.specs.declared.prepared.Change.{Change}
use Rattle.ps_ground.specs.declared.prepared.Change.TheVariants.{Flags, Effects, Spreads}
use Rattle.ps_ground.specs.declared.prepared.Prepared.{Prepared}
use Rattle.ps_ground.specs.declared.prepared.Test.{Test}

-- the goal, as this test, and the ground actions of a problem, over these atoms
pub record IsPrepared (d : Domain) (k : Knowledge) (goal : Cond) (test : Test) (atoms : List Fact) (ps : List Prepared) : Type 0 where
  pub there : k.goal ≡ Some goal
  pub means : MeansGoal d k atoms test goal
  pub grounded : AreGrounded d k atoms ps

-- ---- that it is so is a proposition

goal_set : IsSet Cond
goal_set = Coded-set goal.the_row.coded

fact_set : IsSet Fact
fact_set = Coded-set fact.the_row.coded

num_set : IsSet Num
num_set = Coded-set num.the_row.coded

act_set : IsSet Act
act_set = Coded-set act.the_row.coded

state_set : IsSet State
state_set = hlevel (props, fact_set, num_set)

node_set : IsSet Node
node_set = hlevel (props, state_set, act_set)

change_prop : (d : Domain) (k : Knowledge) (atoms : List Fact) (c : Change) → IsProp (IsSoundChange d k atoms c)
change_prop d k atoms (Flags cleared set) = hlevel props
change_prop d k atoms (Effects es clash) = hlevel props
change_prop d k atoms (Spreads es) = hlevel props

sound_prop : (d : Domain) (k : Knowledge) (atoms : List Fact) (p : Prepared) → IsProp (IsSound d k atoms p)
sound_prop d k atoms p = hlevel (props, change_prop)

all_sound_prop : (d : Domain) (k : Knowledge) (atoms : List Fact) (ps : List Prepared) → IsProp (AreSound d k atoms ps)
all_sound_prop d k atoms [] = Unit-prop
all_sound_prop d k atoms (p ∷ ps) = ×_prop (sound_prop d k atoms p) (all_sound_prop d k atoms ps)

grounded_prop : (d : Domain) (k : Knowledge) (atoms : List Fact) (ps : List Prepared) → IsProp (AreGrounded d k atoms ps)
grounded_prop d k atoms ps = hlevel (props, node_set, all_sound_prop)

pub prepared_prop : {d : Domain} {k : Knowledge} {goal : Cond} {test : Test} {atoms : List Fact} {ps : List Prepared} → IsProp (IsPrepared d k goal test atoms ps)
prepared_prop = hlevel (props, goal_set, grounded_prop)
