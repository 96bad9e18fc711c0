-- What planners answer together, and which of their answers is the best.
use Rattle.std.specs.Prelude.{ℕ, nat_lt, Bool, true, false, not, List, length}
use Rattle.std.specs.List.{list_any, position_or_len}
use Rattle.ps_action.specs.declared.answers.Answer.{Answer}
use Rattle.ps_action.specs.declared.answers.Answer.TheVariants as answer
use Rattle.ps_greedy.specs.declared.found.Found.{Found}
use Rattle.ps_greedy.specs.declared.found.Found.TheVariants.{Plan, NoPlan, Spent, TooMany}

-- what a solver's answer finds
abbrev pub found_of : Answer → Found
found_of (answer.Plan acts) = Plan acts
found_of answer.NoPlan = NoPlan
found_of (answer.Spent depth) = Spent
found_of answer.TooMany = TooMany

-- whether the first answer is better than the second: a shorter plan, a plan where that is none, or that no plan is good where that isn't told
abbrev pub is_better : Found → Found → Bool
is_better (Plan acts) (Plan others) = nat_lt (length acts) (length others)
is_better (Plan acts) g = true
is_better NoPlan Spent = true
is_better NoPlan TooMany = true
is_better f g = false

-- whether none of these is better
abbrev pub is_best : List Found → Found → Bool
is_best fs f = not (list_any (λ g. is_better g f) fs)

-- the place of the first answer than which none is better
abbrev pub best_of : List Found → ℕ
best_of fs = position_or_len (is_best fs) fs
