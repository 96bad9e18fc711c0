-- The times of a plan rise.
use Rattle.std.proofs.Common.{◌≡◌, ℕ, ◌+◌, ◌^◌, ◌≤◌, ◌≤ℤ◌, min, Bool, true, false, pos, negsuc, Option, Some, None, Result, Ok, Err, IsOk, List, [], ◌∷◌, map, All, refl, ap, arith}
use Rattle.std.proofs.lemmas.List.Elements.{All-cons, All-nil}
use Rattle.std.proofs.lemmas.List.Kept.{AllPairs-cons}
use Rattle.std.proofs.lemmas.Int.{ints}
use Rattle.ps_world.specs.Numbers.{IsCount}
use Rattle.ps_world.specs.ExprViews.{expr_tree}
use Rattle.ps_world.specs.declared.numbers.Num.{Num}
use Rattle.ps_world.specs.declared.domains.Domain.{Domain}
use Rattle.ps_world.specs.declared.known.Knowledge.{Knowledge}
use Rattle.ps_action.specs.declared.acts.Act.{Act}
use Rattle.ps_action.specs.declared.acts.GroundAction.{GroundAction}
use Rattle.ps_action.specs.declared.acts.PlanStep.{PlanStep}
use Rattle.ps_action.specs.declared.refusals.GroundRefusal.{GroundRefusal}
use Rattle.ps_action.specs.declared.refusals.PlanRefusal.{PlanRefusal}
use Rattle.ps_action.specs.declared.refusals.PlanRefusal.TheVariants.{Ground, StartFalse, StartEffect, OverAllFalse, EndFalse, EndEffect}
use Rattle.ps_action.specs.Values.{value}
use Rattle.ps_action.specs.Truth.{all_true}
use Rattle.ps_action.specs.Effects.{effect}
use Rattle.ps_action.specs.Grounding.{ground_act}
use Rattle.ps_action.specs.Plans.{after_steps, and_then, duration_of, not_negative, on_ok, step_of, time_after, timed, timed_from, where_true}
use Rattle.ps_plan.specs.Laws.{IsNotNegative, Rises, TimedPlansRise}
use Rattle.ps_plan.specs.Timing.{step_at, timed_ground}

-- ---- what holds of each plan's steps

-- a duration is a natural number
natural : (o : Option Num) → (m : ℕ) × (not_negative o ≡ pos m)
natural None = (0, refl)
natural (Some (pos n)) = (n, refl)
natural (Some (negsuc n)) = (0, refl)

-- What holds of the steps of acts from each time on: where it holds of none, and where it holds of one more step at the front
-- if it holds of those from the next time on.
module _ (P : ℕ → List Act → List PlanStep → Type 0)
    (none : (n : ℕ) (acts : List Act) → P n acts [])
    (one : (n m : ℕ) (act : Act) (acts : List Act) (rest : List PlanStep) → P (min (10 ^ 15) (n + m + 1)) acts rest → P n (act ∷ acts) (step_at (pos n) act (pos m) ∷ rest)) where
  after_ok : (d : Domain) (n : ℕ) (acts : List Act) → ((k : Knowledge) (i : ℕ) → P i acts (timed_from d k (pos i) acts)) → (o : Result Knowledge PlanRefusal) → P n acts (on_ok o (λ k. timed_from d k (pos n) acts))
  after_ok d n acts each (Err e) = none n acts
  after_ok d n acts each (Ok k) = each k n

  from_ground : (d : Domain) (k : Knowledge) (n : ℕ) (act : Act) (acts : List Act) → ((k : Knowledge) (i : ℕ) → P i acts (timed_from d k (pos i) acts)) → (o : Result GroundAction GroundRefusal) → P n (act ∷ acts) (on_ok o (timed_ground d k (pos n) act acts))
  from_ground d k n act acts each (Err e) = none n (act ∷ acts)
  from_ground d k n act acts each (Ok g) =
      let lasts = natural (value k (expr_tree g.duration)) in
      rw lasts.1 (one n lasts.0 act acts _ (after_ok d (min (10 ^ 15) (n + lasts.0 + 1)) acts each (step_of d k 0 g)))

  pub of_each : (d : Domain) (acts : List Act) (k : Knowledge) (n : ℕ) → P n acts (timed_from d k (pos n) acts)
  of_each d [] k n = none n []
  of_each d (act ∷ acts) k n = from_ground d k n act acts (of_each d acts) (ground_act d k.instances act)

-- ---- order, sign, range and number

-- the steps of acts from this time on
record From (n : ℕ) (acts : List Act) (steps : List PlanStep) : Type 0 where
  later : All (λ s. pos n ≤ℤ s.time) steps
  rises : Rises acts steps

-- where the time is in range
IsFrom : ℕ → List Act → List PlanStep → Type 0
IsFrom n acts steps = n ≤ 10 ^ 15 → From n acts steps

none_from : (n : ℕ) (acts : List Act) → IsFrom n acts []
unfolding IsFrom
none_from n acts h = record {
  later = All-nil _;
  rises = record {
    times = λ i j d lt within. absurd (omega arith);
    not_negative = All-nil _;
    in_range = All-nil _;
    few = omega arith;
  };
}

one_from : (n m : ℕ) (act : Act) (acts : List Act) (rest : List PlanStep) → IsFrom (min (10 ^ 15) (n + m + 1)) acts rest → IsFrom n (act ∷ acts) (step_at (pos n) act (pos m) ∷ rest)
unfolding IsFrom
one_from n m act acts rest tail h =
    let t = tail (omega arith) in
    let later : All (λ s. pos n ≤ℤ s.time) rest = λ i d within. omega (arith, ints, t.later i d within) in
    let first = step_at (pos n) act (pos m) in
    record {
      later = All-cons (λ s. pos n ≤ℤ s.time) first rest (omega (arith, ints)) later;
      rises = record {
        times = AllPairs-cons (λ s u. s.time ≤ℤ u.time) first rest later t.rises.times;
        not_negative = All-cons IsNotNegative first rest (omega (arith, ints), omega (arith, ints)) t.rises.not_negative;
        in_range = All-cons (λ s. IsCount s.time) first rest h t.rises.in_range;
        few = omega (arith, t.rises.few);
      };
    }

rises : (d : Domain) (k : Knowledge) (acts : List Act) → Rises acts (timed d k acts)
unfolding IsFrom
rises d k acts = (of_each IsFrom none_from one_from d acts k 0 (omega arith)).rises

-- ---- where no step fails

module _ {A B E F : Type 0} where
  -- what is good doesn't depend on the refusals
  then_ok : (o : Result A E) (why other : E → F) (one two : A → Result B F) (b : B) → ((a : A) → one a ≡ Ok b → two a ≡ Ok b) → and_then why o one ≡ Ok b → and_then other o two ≡ Ok b
  then_ok (Err e) why other one two b h p = cc
  then_ok (Ok a) why other one two b h p = h a p

where_ok : (holds : Bool) (why other : PlanRefusal) (one two : Result Knowledge PlanRefusal) (next : Knowledge) → (one ≡ Ok next → two ≡ Ok next) → where_true holds why one ≡ Ok next → where_true holds other two ≡ Ok next
where_ok true why other one two next h p = h p
where_ok false why other one two next h p = cc

-- a step from its start effects on
during_of : Domain → ℕ → GroundAction → Knowledge → Result Knowledge PlanRefusal
during_of d i g during =
    where_true (all_true d during g.conditions.over_all) (OverAllFalse i)
    (where_true (all_true d during g.conditions.at_end) (EndFalse i) (and_then (EndEffect i) (effect d during g.effects.at_end) Ok))

during_ok : (d : Domain) (i j : ℕ) (g : GroundAction) (next during : Knowledge) → during_of d i g during ≡ Ok next → during_of d j g during ≡ Ok next
unfolding during_of
during_ok d i j g next during =
    where_ok (all_true d during g.conditions.over_all) (OverAllFalse i) (OverAllFalse j)
    (where_true (all_true d during g.conditions.at_end) (EndFalse i) (and_then (EndEffect i) (effect d during g.effects.at_end) Ok))
    (where_true (all_true d during g.conditions.at_end) (EndFalse j) (and_then (EndEffect j) (effect d during g.effects.at_end) Ok)) next
    (where_ok (all_true d during g.conditions.at_end) (EndFalse i) (EndFalse j) (and_then (EndEffect i) (effect d during g.effects.at_end) Ok) (and_then (EndEffect j) (effect d during g.effects.at_end) Ok) next
    (then_ok (effect d during g.effects.at_end) (EndEffect i) (EndEffect j) Ok Ok next (λ a e. e)))

-- a good step is good at each place
step_ok : (d : Domain) (k : Knowledge) (i j : ℕ) (g : GroundAction) (next : Knowledge) → step_of d k i g ≡ Ok next → step_of d k j g ≡ Ok next
unfolding during_of
step_ok d k i j g next =
    where_ok (all_true d k g.conditions.at_start) (StartFalse i) (StartFalse j)
    (and_then (StartEffect i) (effect d k g.effects.at_start) (during_of d i g)) (and_then (StartEffect j) (effect d k g.effects.at_start) (during_of d j g)) next
    (then_ok (effect d k g.effects.at_start) (StartEffect i) (StartEffect j) (during_of d i g) (during_of d j g) next (during_ok d i j g next))

module _ (d : Domain) (acts : List Act) (each : (k : Knowledge) (i : ℕ) (time : Num) → IsOk (after_steps d k i acts) → map (λ s. s.act) (timed_from d k time acts) ≡ acts) where
  whole_after : (k : Knowledge) (i : ℕ) (time : Num) (g : GroundAction) (o : Result Knowledge PlanRefusal) → step_of d k i g ≡ o → IsOk (and_then (λ r. r) o (λ next. after_steps d next (i + 1) acts)) → map (λ s. s.act) (on_ok (step_of d k 0 g) (λ next. timed_from d next time acts)) ≡ acts
  whole_after k i time g (Err r) e h = cc
  whole_after k i time g (Ok next) e h = rw (step_ok d k i 0 g next e) (each next (i + 1) time h)

  whole_ground : (k : Knowledge) (i : ℕ) (time : Num) (act : Act) (o : Result GroundAction GroundRefusal) → IsOk (and_then (λ r. r) (and_then (Ground i) o (step_of d k i)) (λ next. after_steps d next (i + 1) acts)) → map (λ s. s.act) (on_ok o (timed_ground d k time act acts)) ≡ act ∷ acts
  whole_ground k i time act (Err r) h = cc
  whole_ground k i time act (Ok g) h = ap (λ (xs : List Act). act ∷ xs) (whole_after k i (time_after time (duration_of k (expr_tree g.duration))) g (step_of d k i g) refl h)

whole : (d : Domain) (acts : List Act) (k : Knowledge) (i : ℕ) (time : Num) → IsOk (after_steps d k i acts) → map (λ s. s.act) (timed_from d k time acts) ≡ acts
whole d [] k i time h = refl
whole d (act ∷ acts) k i time h = whole_ground d acts (whole d acts) k i time act (ground_act d k.instances act) h

pub timed_plans_rise : TimedPlansRise
timed_plans_rise = record { rise = rises; whole = λ d k acts. whole d acts k 0 (pos 0) }
