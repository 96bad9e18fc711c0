-- Plans, judged one action after another.
use Rattle.std.specs.Prelude.{ℕ, ◌+◌, ◌^◌, ◌≤◌, min, pos, negsuc, Bool, if◌then◌else◌, Option, Some, None, Result, Ok, Err, IsOk, List, [], ◌∷◌, length}
use Rattle.ps_world.specs.Trees.{ExprTree}
use Rattle.ps_world.specs.ExprViews.{expr_tree}
use Rattle.ps_world.specs.CondViews.{cond_tree}
use Rattle.ps_world.specs.declared.numbers.Num.{Num}
use Rattle.ps_world.specs.declared.conditions.Cond.{Cond}
use Rattle.ps_world.specs.declared.domains.Domain.{Domain}
use Rattle.ps_world.specs.declared.known.Knowledge.{Knowledge}
use Rattle.ps_action.specs.declared.acts.Act.{Act}
use Rattle.ps_action.specs.declared.acts.GroundAction.{GroundAction}
use Rattle.ps_action.specs.declared.acts.PlanStep.{PlanStep}
use Rattle.ps_action.specs.declared.refusals.PlanRefusal.{PlanRefusal}
use Rattle.ps_action.specs.declared.refusals.PlanRefusal.TheVariants.{NoGoal, Ground, StartFalse, StartEffect, OverAllFalse, EndFalse, EndEffect, GoalFalse}
use Rattle.ps_action.specs.Values.{value}
use Rattle.ps_action.specs.Truth.{is_true, all_true}
use Rattle.ps_action.specs.Effects.{effect}
use Rattle.ps_action.specs.Grounding.{ground_act}

-- ---- one step

-- what follows a part of a step that doesn't fail
abbrev pub and_then : {A B E F : Type 0} → (E → F) → Result A E → (A → Result B F) → Result B F
and_then why (Err e) next = Err (why e)
and_then why (Ok a) next = next a

-- what follows a condition that holds
abbrev pub where_true : {A E : Type 0} → Bool → E → Result A E → Result A E
where_true holds why next = if holds then next else Err why

-- The knowledge after a ground action that is the step at this place, or its first part that fails: the start condition, the
-- start effect, the over-all condition after that effect, the end condition after it, the end effect.
abbrev pub step_of : Domain → Knowledge → ℕ → GroundAction → Result Knowledge PlanRefusal
step_of d k i g =
    where_true (all_true d k g.conditions.at_start) (StartFalse i)
    (and_then (StartEffect i) (effect d k g.effects.at_start) (λ during.
    where_true (all_true d during g.conditions.over_all) (OverAllFalse i)
    (where_true (all_true d during g.conditions.at_end) (EndFalse i)
    (and_then (EndEffect i) (effect d during g.effects.at_end) Ok))))

-- the same of an act, which has to be grounded first
abbrev pub step : Domain → Knowledge → ℕ → Act → Result Knowledge PlanRefusal
step d k i act = and_then (Ground i) (ground_act d k.instances act) (step_of d k i)

-- ---- a plan

-- the knowledge after these acts, the first of them the step at this place, or the first failure
abbrev pub after_steps : Domain → Knowledge → ℕ → List Act → Result Knowledge PlanRefusal
after_steps d k i [] = Ok k
after_steps d k i (act ∷ acts) = and_then (λ r. r) (step d k i act) (λ next. after_steps d next (i + 1) acts)

-- a goal, if there is one, is looked at after the acts
abbrev pub judged_by : Domain → Knowledge → Option Cond → List Act → Result Knowledge PlanRefusal
judged_by d k None acts = Err NoGoal
judged_by d k (Some goal) acts = and_then (λ r. r) (after_steps d k 0 acts) (λ last. where_true (is_true d last (cond_tree goal)) GoalFalse (Ok last))

-- the knowledge after a good plan, or the first thing that fails: there is no goal, a step, or the goal at the end
abbrev pub judged : Domain → Knowledge → List Act → Result Knowledge PlanRefusal
judged d k acts = judged_by d k k.goal acts

-- the most acts of a plan
abbrev pub most_acts : ℕ
most_acts = 256

-- a good plan: there is a goal, there are at most 256 acts, each step goes well after the others, and the goal holds after the last
pub record IsGoodPlan (d : Domain) (k : Knowledge) (acts : List Act) : Type 0 where
  pub few : length acts ≤ most_acts
  pub goes_well : IsOk (judged d k acts)

-- ---- the times of a plan

-- a number that isn't defined counts as zero, and so does a negative one
abbrev pub not_negative : Option Num → Num
not_negative None = pos 0
not_negative (Some (pos n)) = pos n
not_negative (Some (negsuc n)) = pos 0

-- the duration of an expression in this knowledge
abbrev pub duration_of : Knowledge → ExprTree → Num
duration_of k x = not_negative (value k x)

-- the time of a step after one at this time and with this duration: a thousandth lies between them, and no time passes the greatest number
abbrev pub time_after : Num → Num → Num
time_after (pos time) (pos duration) = pos (min (10 ^ 15) (time + duration + 1))
time_after time duration = time

-- what follows where nothing fails, else nothing
abbrev pub on_ok : {A B E : Type 0} → Result A E → (A → List B) → List B
on_ok (Err e) next = []
on_ok (Ok a) next = next a

-- these acts with their times and durations, from this time on, as far as no step fails
abbrev pub timed_from : Domain → Knowledge → Num → List Act → List PlanStep
timed_from d k time [] = []
timed_from d k time (act ∷ acts) =
    on_ok (ground_act d k.instances act) (λ g.
    let lasting = duration_of k (expr_tree g.duration) in
    record { time = time; act = act; duration = lasting } ∷
    on_ok (step_of d k 0 g) (λ next. timed_from d next (time_after time lasting) acts))

-- the steps of a plan, of which the first has the time 0
abbrev pub timed : Domain → Knowledge → List Act → List PlanStep
timed d k acts = timed_from d k (pos 0) acts
