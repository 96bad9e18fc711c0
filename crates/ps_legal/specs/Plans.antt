-- Words of the table of events for plans.
use Rattle.std.specs.Prelude.{ℕ, Option, None, Some, IsSome}
use Rattle.ps_world.specs.declared.domains.Domain.{Domain}
use Rattle.ps_world.specs.declared.known.Knowledge.{Knowledge}
use Rattle.ps_action.specs.Search.{answer}
use Rattle.ps_machine.specs.declared.journal.Outcome.{Outcome}
use Rattle.ps_rules.specs.Settled.{given_up}

-- how a settled run with this verdict ends, or, where there is none, by the answer that is due; nothing where that is a plan
abbrev pub ending_of : Domain → Knowledge → ℕ → Option Outcome → Option Outcome
ending_of d k budget (Some how) = Some how
ending_of d k budget None = given_up (answer d k budget)

-- there is a goal, where there is no verdict
abbrev pub HasGoal : Option Outcome → Knowledge → Type 0
HasGoal (Some how) k = Unit {0}
HasGoal None k = IsSome k.goal
