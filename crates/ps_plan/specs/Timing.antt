-- The times of a plan, one step after another.
use Rattle.std.specs.Prelude.{Option, Some, None, List, [], ◌∷◌}
use Rattle.ps_world.specs.Numbers.{IsCount}
use Rattle.ps_world.specs.ExprViews.{expr_tree}
use Rattle.ps_world.specs.declared.numbers.Num.{Num}
use Rattle.ps_world.specs.declared.domains.Domain.{Domain}
use Rattle.ps_world.specs.declared.known.Knowledge.{Knowledge}
use Rattle.ps_action.specs.declared.acts.Act.{Act}
use Rattle.ps_action.specs.declared.acts.GroundAction.{GroundAction}
use Rattle.ps_action.specs.declared.acts.PlanStep.{PlanStep}
use Rattle.ps_action.specs.Plans.{duration_of, on_ok, step_of, time_after, timed_from}

-- the step of an act at this time and with this duration
abbrev pub step_at : Num → Act → Num → PlanStep
step_at time act lasting = record { time = time; act = act; duration = lasting }

-- the step of an act with this ground action, and those of the acts after it, as far as no step fails
abbrev pub timed_ground : Domain → Knowledge → Num → Act → List Act → GroundAction → List PlanStep
timed_ground d k time act rest g =
    let lasting = duration_of k (expr_tree g.duration) in
    step_at time act lasting ∷ on_ok (step_of d k 0 g) (λ next. timed_from d next (time_after time lasting) rest)

-- these acts with their times and durations where there is a time for the first of them, else nothing
abbrev pub timed_on : Domain → Knowledge → Option Num → List Act → List PlanStep
timed_on d k None acts = []
timed_on d k (Some time) acts = timed_from d k time acts

-- the time and the duration of a step are in range
abbrev pub IsInRange : PlanStep → Type 0
IsInRange s = IsCount s.time × IsCount s.duration
