-- The answer is one that a solver may give.
use Rattle.std.proofs.Common.{◌≡◌, ℕ, zero, suc, ◌+◌, ◌≤◌, Bool, true, false, cond, nat_le, Option, Some, None, Result, Ok, Err, IfOk, List, [], ◌∷◌, All, find, flat_map, length, map, is_ok, IsOk, refl, ap, sym, ◌∙◌, subst, arith}
use Rattle.std.proofs.lemmas.List.Elements.{All-append, All-cons, All-head, All-nil, All-tail}
use Rattle.ps_world.specs.declared.domains.Domain.{Domain}
use Rattle.ps_world.specs.declared.known.Knowledge.{Knowledge}
use Rattle.ps_action.specs.declared.acts.Act.{Act}
use Rattle.ps_action.specs.declared.answers.Answer.{Answer}
use Rattle.ps_action.specs.declared.answers.Answer.TheVariants.{Plan, NoPlan, Spent, TooMany}
use Rattle.ps_action.specs.Plans.{IsGoodPlan, judged, most_acts}
use Rattle.ps_action.specs.Search.{Fits, HasLength, answer, answer_from, at_depth, least_plan, level, lists_of, plans_of, possible_acts, reach, unplanned}

-- ---- lists of so many items

module _ {A : Type 0} (items : List A) where
  abbrev Has : ℕ → List A → Type 0
  Has n l = length l ≡ n

  longer : (n : ℕ) (item : A) (lists : List (List A)) → All (Has n) lists → All (Has (suc n)) (map (λ more. item ∷ more) lists)
  longer n item [] h = All-nil (Has (suc n))
  longer n item (l ∷ ls) h =
      All-cons (Has (suc n)) (item ∷ l) (map (λ more. item ∷ more) ls) (ap suc (All-head (Has n) l ls h)) (longer n item ls (All-tail (Has n) l ls h))

  each_longer : (n : ℕ) (some : List A) (lists : List (List A)) → All (Has n) lists → All (Has (suc n)) (flat_map (λ item. map (λ more. item ∷ more) lists) some)
  each_longer n [] lists h = All-nil (Has (suc n))
  each_longer n (item ∷ some) lists h =
      All-append (Has (suc n)) (map (λ more. item ∷ more) lists) (flat_map (λ item. map (λ more. item ∷ more) lists) some) (longer n item lists h) (each_longer n some lists h)

  -- each list of so many items has so many
  lists_have : (n : ℕ) → All (Has n) (lists_of items n)
  lists_have zero = All-cons (Has 0) [] [] refl (All-nil (Has 0))
  lists_have (suc n) = each_longer n items (lists_of items n) (lists_have n)

-- ---- the answer

module _ (d : Domain) (k : Knowledge) where
  abbrev AreMany : ℕ → List Act → Type 0
  AreMany n acts = length acts ≡ n

  here_at : (acts : List Act) (n : ℕ) (b : Bool) (plan : List Act) (found : Option (List Act)) → is_ok (judged d k plan) ≡ b → AreMany n plan → (found ≡ Some acts → IsOk (judged d k acts) × AreMany n acts) → cond b (Some plan) found ≡ Some acts → IsOk (judged d k acts) × AreMany n acts
  here_at acts n true plan found good many h e =
      let same : plan ≡ acts = cc in
      (ap (λ l. is_ok (judged d k l)) (sym same) ∙ good, ap length (sym same) ∙ many)
  here_at acts n false plan found good many h e = h e

  found_good : (acts : List Act) (n : ℕ) (plans : List (List Act)) → All (AreMany n) plans → find (λ l. is_ok (judged d k l)) plans ≡ Some acts → IsOk (judged d k acts) × AreMany n acts
  found_good acts n [] many e = absurd (cc)
  found_good acts n (plan ∷ plans) many e =
      here_at acts n (is_ok (judged d k plan)) plan _ refl (All-head (AreMany n) plan plans many) (found_good acts n plans (All-tail (AreMany n) plan plans many)) e

  -- the least good plan of so many acts is good
  least_good : (acts : List Act) (depth : ℕ) → depth ≤ most_acts → least_plan d k depth ≡ Some acts → IsGoodPlan d k acts
  least_good acts depth few e =
      let found = found_good acts depth (plans_of d k depth) (lists_have (possible_acts d k) depth) e in
      record { few = omega (arith, found.1); goes_well = found.0 }

  spent_at : (acts : List Act) (b : Bool) (depth : ℕ) (next : Answer) → cond b (Spent depth) next ≡ Plan acts → next ≡ Plan acts
  spent_at acts true depth next e = absurd (cc)
  spent_at acts false depth next e = e

  unplanned_at : (acts : List Act) (ks reached : List Knowledge) (budget depth : ℕ) (next : Answer) → unplanned ks reached budget depth next ≡ Plan acts → next ≡ Plan acts
  unplanned_at acts [] reached budget depth next e = absurd (cc)
  unplanned_at acts (l ∷ ks) reached budget depth next e = spent_at acts (nat_le budget (length reached)) depth next e

  planned_at : (acts : List Act) (budget depth : ℕ) (next : Answer) (o : Option (List Act)) → (o ≡ Some acts → IsGoodPlan d k acts) → (next ≡ Plan acts → IsGoodPlan d k acts) → at_depth d k budget depth o next ≡ Plan acts → IsGoodPlan d k acts
  planned_at acts budget depth next (Some plan) here later e =
      let same : plan ≡ acts = cc in
      here (ap Some same)
  planned_at acts budget depth next None here later e = later (unplanned_at acts (level d k depth) (reach d k depth) budget depth next e)

  -- an answered plan is good
  answered_good : (acts : List Act) (budget more depth : ℕ) → depth + more ≤ most_acts → answer_from d k budget more depth ≡ Plan acts → IsGoodPlan d k acts
  answered_good acts budget zero depth few e =
      planned_at acts budget depth (Spent depth) (least_plan d k depth) (least_good acts depth (omega arith)) (λ s. absurd (cc)) e
  answered_good acts budget (suc more) depth few e =
      planned_at acts budget depth (answer_from d k budget more (depth + 1)) (least_plan d k depth) (least_good acts depth (omega arith)) (answered_good acts budget more (depth + 1) (omega arith)) e

  counted_at : (acts : List Act) (b : Bool) (next : Answer) → cond b TooMany next ≡ Plan acts → next ≡ Plan acts
  counted_at acts true next e = absurd (cc)
  counted_at acts false next e = e

  good_plan : (acts : List Act) (budget : ℕ) → answer d k budget ≡ Plan acts → IsGoodPlan d k acts
  unfolding answer
  good_plan acts budget e = answered_good acts budget most_acts 0 (omega arith) (counted_at acts _ (answer_from d k budget most_acts 0) e)

  fits_at : (budget : ℕ) (a : Answer) → answer d k budget ≡ a → Fits d k budget a
  fits_at budget (Plan acts) e = (good_plan acts budget e, let P : Answer → Type 0 = HasLength (length acts) in subst P (sym e) refl)
  fits_at budget NoPlan e = e
  fits_at budget (Spent depth) e = e
  fits_at budget TooMany e = e

  -- what is answered is what a solver may answer
  pub answer_fits : {E : Type 0} (budget : ℕ) (r : Result Answer E) → IfOk r (λ a. a ≡ answer d k budget) → IfOk r (λ a. Fits d k budget a)
  answer_fits budget (Ok a) e = fits_at budget a (sym e)
  answer_fits budget (Err error) e = tt
