-- What ends a search.
use Rattle.std.specs.Prelude.{ℕ, if◌then◌else◌, nat_le, Option, Some, None, List, [], ◌∷◌}
use Rattle.ps_world.specs.declared.domains.Domain.{Domain}
use Rattle.ps_world.specs.declared.known.Knowledge.{Knowledge}
use Rattle.ps_action.specs.Plans.{most_acts}
use Rattle.ps_action.specs.Search.{answer_from}
use Rattle.ps_action.specs.declared.acts.Act.{Act}
use Rattle.ps_action.specs.declared.answers.Answer.{Answer}
use Rattle.ps_action.specs.declared.answers.Answer.TheVariants.{Plan, NoPlan, Spent}
use Rattle.ps_ground.specs.Moves.{Node}

-- the answer at a depth where no node meets the goal, if the search ends there
abbrev pub unfinished : List Node → ℕ → ℕ → ℕ → Option Answer
unfinished [] reached budget depth = Some NoPlan
unfinished (n ∷ ns) reached budget depth = if nat_le budget reached then Some (Spent depth) else None

-- the answer at a depth with this path to the goal, if there is one, if the search ends there
abbrev pub ending : Option (List Act) → List Node → ℕ → ℕ → ℕ → Option Answer
ending (Some path) level reached budget depth = Some (Plan path)
ending None level reached budget depth = unfinished level reached budget depth

-- the answer where there aren't too many ground actions
unfoldable pub searched : Domain → Knowledge → ℕ → Answer
searched d k budget = answer_from d k budget most_acts 0
