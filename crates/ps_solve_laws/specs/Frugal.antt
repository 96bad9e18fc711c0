-- How far a search goes before it answers.
use Rattle.std.specs.Prelude.{◌≡◌, ◌+◌, ◌<◌, ◌≤◌, ℕ, zero, suc, List, [], length}
use Rattle.ps_world.specs.declared.conditions.Cond.{Cond}
use Rattle.ps_world.specs.declared.domains.Domain.{Domain}
use Rattle.ps_world.specs.declared.known.Knowledge.{Knowledge}
use Rattle.ps_action.specs.Search.{level, reach as reach_of}
use Rattle.ps_action.specs.declared.acts.Act.{Act}
use Rattle.ps_action.specs.declared.answers.Answer.{Answer}
use Rattle.ps_action.specs.declared.answers.Answer.TheVariants.{Plan, NoPlan, Spent, TooMany}
use Rattle.ps_levels.specs.Levels.{IsGivenAt, reach}
use Rattle.ps_levels.specs.Levels as levels
use Rattle.ps_levels.specs.declared.searching.Found.{Found}
use Rattle.ps_solve.specs.Spaces.{answer_of, path_of, space}

-- an answer is given at this depth
abbrev pub HasDepth : Domain → Knowledge → Answer → ℕ → Type 0
HasDepth d k (Plan acts) n = length acts ≡ n
HasDepth d k NoPlan n = level d k n ≡ []
HasDepth d k (Spent depth) n = depth ≡ n
HasDepth d k TooMany n = ⊥

-- before a depth is answered the count of expanded nodes rises by no more than what stands in the levels before it, which is less than the
-- budget
abbrev pub IsFrugal : Domain → Knowledge → ℕ → ℕ → ℕ → ℕ → Type 0
IsFrugal d k budget before after zero = after ≡ before
IsFrugal d k budget before after (suc n) = (after ≤ before + length (reach_of d k n)) × (length (reach_of d k n) < budget)

-- so it is of an answer at its depth
pub record IsFrugalAnswer (d : Domain) (k : Knowledge) (budget before after : ℕ) (a : Answer) : Type 0 where
  pub depth : ℕ
  pub given : HasDepth d k a depth
  pub frugal : IsFrugal d k budget before after depth

-- as many nodes are reached as knowledges are
abbrev pub ReachesAsMany : Type 0
ReachesAsMany = (d : Domain) (k : Knowledge) (goal : Cond) (n : ℕ) → length (reach (space d k goal) n) ≡ length (reach_of d k n)

-- what a search says of its depth and of what it expands it says of the answer
abbrev pub TellsHowFar : Type 0
TellsHowFar = (d : Domain) (k : Knowledge) (goal : Cond) (budget before expanded depth : ℕ) (f : Found (List Act)) → IsGivenAt (space d k goal) path_of depth f → levels.IsFrugal (space d k goal) budget depth expanded → IsFrugalAnswer d k budget before (before + expanded) (answer_of f)
