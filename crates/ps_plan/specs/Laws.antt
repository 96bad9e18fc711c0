-- Laws of plans: what printed plans are read as, and how the times of plans rise.
use Rattle.std.specs.Prelude.{ℕ, ◌≤◌, ℤ, pos, ◌≤ℤ◌, List, [], ◌∷◌, length, All, ◌≡◌, map, AllPairs, IsOk}
use Rattle.ps_world.specs.Names.{Table}
use Rattle.ps_world.specs.Numbers.{IsCount}
use Rattle.ps_text.specs.Names.{AreNames}
use Rattle.ps_action.specs.declared.acts.PlanStep.{PlanStep}
use Rattle.ps_plan.specs.PlanText.{IsPlan, IsStepOf, most_steps, plan_text}
use Rattle.ps_world.specs.declared.domains.Domain.{Domain}
use Rattle.ps_world.specs.declared.known.Knowledge.{Knowledge}
use Rattle.ps_action.specs.declared.acts.Act.{Act}
use Rattle.ps_action.specs.Plans.{after_steps, timed}

-- ---- texts

-- a number in range that isn't negative
abbrev pub IsAmount : ℤ → Type 0
IsAmount z = (pos 0 ≤ℤ z) × IsCount z

-- a step that a line can say: its names are among so many, it has at most six arguments, and its numbers are in range and not negative
pub record IsPrintable (count : ℕ) (step : PlanStep) : Type 0 where
  pub named : IsStepOf count step
  pub few : length step.act.args ≤ 6
  pub time : IsAmount step.time
  pub duration : IsAmount step.duration

-- each time is at most that of the next step, from this time on
abbrev pub RiseFrom : ℤ → List PlanStep → Type 0
RiseFrom time [] = Unit {0}
RiseFrom time (step ∷ steps) = (time ≤ℤ step.time) × RiseFrom step.time steps

-- A printed plan whose times rise is read as itself, and puts no new name into the table.
abbrev pub PrintedPlansAreRead : Type 0
PrintedPlansAreRead =
    (table : Table) (steps : List PlanStep) → AreNames table → All (IsPrintable (length table)) steps → RiseFrom (pos 0) steps
    → length steps ≤ most_steps → IsPlan table (plan_text table steps) steps table

-- ---- times

-- neither the time of a step nor its duration is negative
abbrev pub IsNotNegative : PlanStep → Type 0
IsNotNegative s = (pos 0 ≤ℤ s.time) × (pos 0 ≤ℤ s.duration)

-- the times of the steps of these acts
pub record Rises (acts : List Act) (steps : List PlanStep) : Type 0 where
  -- the time of each step is at most that of each later one
  pub times : AllPairs (λ s t. s.time ≤ℤ t.time) steps
  pub not_negative : All IsNotNegative steps
  pub in_range : All (λ s. IsCount s.time) steps
  -- no more steps than acts
  pub few : length steps ≤ length acts

-- the times of a plan rise, and where no step fails there is one for each act
pub record TimedPlansRise : Type 0 where
  pub rise : (d : Domain) (k : Knowledge) (acts : List Act) → Rises acts (timed d k acts)
  pub whole : (d : Domain) (k : Knowledge) (acts : List Act) → IsOk (after_steps d k 0 acts) → map (λ s. s.act) (timed d k acts) ≡ acts
