-- What a planner searches: nodes are states with the acts that lead to them.
use Rattle.std.specs.Prelude.{◌≡◌, ℕ, Some, List}
use Rattle.ps_world.specs.declared.conditions.Cond.{Cond}
use Rattle.ps_world.specs.declared.domains.Domain.{Domain}
use Rattle.ps_world.specs.declared.known.Knowledge.{Knowledge}
use Rattle.ps_action.specs.Plans.{most_acts}
use Rattle.ps_action.specs.declared.acts.Act.{Act}
use Rattle.ps_action.specs.declared.answers.Answer.{Answer}
use Rattle.ps_action.specs.declared.answers.Answer.TheVariants.{Plan, NoPlan, Spent as SpentAt}
use Rattle.ps_ground.specs.Goals.{is_good}
use Rattle.ps_ground.specs.Moves.{Node, grounds, moves}
use Rattle.ps_ground.specs.States.{State}
use Rattle.ps_levels.specs.Levels.{Space, answer_from}
use Rattle.ps_levels.specs.declared.searching.Found.{Found}
use Rattle.ps_levels.specs.declared.searching.Found.TheVariants.{Path, Nowhere, Spent}
use Rattle.ps_solve.specs.Endings.{searched}
use Rattle.ps_solve.specs.Nodes.{root, same_state}

abbrev pub space : Domain → Knowledge → Cond → Space Node State
space d k goal = record {
  root = root k;
  state = λ n. n.state;
  same = same_state;
  moves = moves d k (grounds d k);
  good = is_good d k goal;
}

abbrev pub path_of : Node → List Act
path_of n = n.path

-- what is answered where this is found
abbrev pub answer_of : Found (List Act) → Answer
answer_of (Path acts) = Plan acts
answer_of Nowhere = NoPlan
answer_of (Spent depth) = SpentAt depth

-- a search by levels finds what the definition of the answer says
abbrev pub FindsTheAnswer : Type 0
FindsTheAnswer = (d : Domain) (k : Knowledge) (goal : Cond) (budget most : ℕ) → k.goal ≡ Some goal → most ≡ most_acts → answer_of (answer_from (space d k goal) path_of budget most 0) ≡ searched d k budget
