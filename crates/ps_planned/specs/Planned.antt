-- What the mode `plan` tells of a problem.
use Rattle.std.specs.Prelude.{ℕ, Option, Some, None, List, [], ◌∷◌, ◌++◌, codes, slice_index_or}
use Rattle.ps_world.specs.Lines.{line_end}
use Rattle.ps_world.specs.Names.{Table}
use Rattle.ps_world.specs.declared.conditions.Cond.{Cond}
use Rattle.ps_world.specs.declared.domains.Domain.{Domain}
use Rattle.ps_world.specs.declared.known.Knowledge.{Knowledge}
use Rattle.ps_action.specs.Plans.{timed}
use Rattle.ps_action.specs.Search.{answer}
use Rattle.ps_plan.specs.PlanText.{plan_text}
use Rattle.ps_greedy.specs.Greedy.{greedy}
use Rattle.ps_greedy.specs.declared.found.Found.{Found}
use Rattle.ps_greedy.specs.declared.found.Found.TheVariants.{Plan, NoPlan, Spent, TooMany}
use Rattle.ps_marks.specs.Landmarks.{goal_marks, landmarks}
use Rattle.ps_portfolio.specs.Choosing.{best_of, found_of}

-- what the planners answer: the search by levels, and the greedy ones by the landmarks and by the marks of the goal
abbrev pub answers : Domain → Knowledge → ℕ → List Found
answers d k budget = found_of (answer d k budget) ∷ greedy d k budget (landmarks d k) ∷ greedy d k budget (goal_marks k) ∷ []

-- their names, in this order
abbrev pub planners : List (List ℕ)
planners = codes "levels" ∷ codes "landmarks" ∷ codes "goals" ∷ []

-- the name of the planner at a place
abbrev pub planner_at : ℕ → List ℕ
planner_at place = slice_index_or planners place []

-- a text, and the end of its line
abbrev pub line_of : List ℕ → List ℕ
line_of text = text ++ line_end

-- what is told of an answer: the name of its planner in a comment and the timed steps of its plan, or one line that says why there is none
abbrev pub found_text : Domain → Knowledge → Table → List ℕ → Found → List ℕ
found_text d k names planner (Plan acts) = line_of (codes "; " ++ planner) ++ plan_text names (timed d k acts)
found_text d k names planner NoPlan = line_of (codes "no plan")
found_text d k names planner Spent = line_of (codes "spent")
found_text d k names planner TooMany = line_of (codes "too many")

-- the status of an answer
abbrev pub found_status : Found → ℕ
found_status (Plan acts) = 0
found_status f = 1

-- what is told of the best of some answers, with its status
abbrev pub best_told : Domain → Knowledge → Table → List Found → List ℕ × ℕ
best_told d k names fs =
    let place = best_of fs in
    let found = slice_index_or fs place Spent in
    (found_text d k names (planner_at place) found, found_status found)

-- the same of what is known with this goal: without one no planner is asked
abbrev pub told_to : Domain → Knowledge → Table → ℕ → Option Cond → List ℕ × ℕ
told_to d k names budget None = (line_of (codes "no goal"), 1)
told_to d k names budget (Some goal) = best_told d k names (answers d k budget)

-- what is told of a problem, with the status of it
unfoldable pub plan_told : Domain → Knowledge → Table → ℕ → List ℕ × ℕ
plan_told d k names budget = told_to d k names budget k.goal
