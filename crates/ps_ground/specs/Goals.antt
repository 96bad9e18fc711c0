-- What it is to meet the goal.
use Rattle.std.specs.Prelude.{◌≡◌, Bool, List}
use Rattle.ps_world.specs.CondViews.{cond_tree}
use Rattle.ps_world.specs.declared.conditions.Cond.{Cond}
use Rattle.ps_world.specs.declared.domains.Domain.{Domain}
use Rattle.ps_world.specs.declared.facts.Fact.{Fact}
use Rattle.ps_world.specs.declared.known.Knowledge.{Knowledge}
use Rattle.ps_action.specs.Truth.{is_true}
use Rattle.ps_ground.specs.Prepared.{passes}
use Rattle.ps_ground.specs.States.{State, at}
use Rattle.ps_ground.specs.declared.prepared.Test.{Test}

-- whether a state meets the goal
abbrev pub is_good : Domain → Knowledge → Cond → State → Bool
is_good d k goal s = is_true d (at k s) (cond_tree goal)

-- a test passes in just the states that meet the goal
abbrev pub MeansGoal : Domain → Knowledge → List Fact → Test → Cond → Type 0
MeansGoal d k atoms test goal = (s : State) → passes d k atoms test s ≡ is_good d k goal s
