-- What the first fault of lines says: how many steps they say.
use Rattle.std.proofs.Common.{◌≡◌, ℕ, ◌+◌, ◌≤◌, Bool, true, false, cond, nat_lt, if◌then◌else◌, Option, Some, None, is_some, List, [], ◌∷◌, length, filter_map, sym, ap, ◌∙◌, inl, inr, arith}
use Rattle.std.proofs.lemmas.Bool.{cases_Bool, ltb-true}
use Rattle.std.specs.List.{cons_option}
use Rattle.ps_world.specs.Lines.{lines_of}
use Rattle.ps_plan.specs.PlanText.{Said, fault_from, is_skipped, line_of, most_steps, plan_fault, said_by, says}
use Rattle.ps_action.specs.declared.refusals.PlanTextRefusal.{PlanTextRefusal}
use Rattle.ps_action.specs.declared.refusals.PlanTextRefusal.TheVariants.{Line, Long}

-- the answers of tests, one within the other
first_of : {A : Type 0} (p : Bool) (x y : A) → p ≡ true → cond p x y ≡ x
first_of p x y h = rw h

within : {A : Type 0} (p q r : Bool) (x y z w : A) → p ≡ false → q ≡ true → r ≡ true → cond p x (cond q (cond r y z) w) ≡ y
within p q r x y z w h k e = rw (h, k, e)

past : {A : Type 0} (p q r : Bool) (x y z w : A) → p ≡ false → q ≡ true → r ≡ false → cond p x (cond q (cond r y z) w) ≡ z
past p q r x y z w h k e = rw (h, k, e)

pub outside : {A : Type 0} (p q : Bool) (x y w : A) → p ≡ false → q ≡ false → cond p x (cond q y w) ≡ w
outside p q x y w h k = rw (h, k)

-- what a line is to the first fault, after so many steps
pub data Kind (line : List ℕ) (count : ℕ) : Type 0 where
  skipped : is_skipped line ≡ true → Kind line count
  step : is_skipped line ≡ false → is_some (line_of line) ≡ true → nat_lt count most_steps ≡ true → Kind line count
  long : is_skipped line ≡ false → is_some (line_of line) ≡ true → nat_lt count most_steps ≡ false → Kind line count
  bad : is_skipped line ≡ false → is_some (line_of line) ≡ false → Kind line count

pub kind_of : (line : List ℕ) (count : ℕ) → Kind line count
kind_of line count =
    elim (cases_Bool (is_skipped line)) [
      | inl h ↦ skipped h
      | inr h ↦ elim (cases_Bool (is_some (line_of line))) [
        | inr k ↦ bad h k
        | inl k ↦ elim (cases_Bool (nat_lt count most_steps)) [
          | inl e ↦ step h k e
          | inr e ↦ long h k e
        ]
      ]
    ]

module _ (n count : ℕ) (line : List ℕ) (lines : List (List ℕ)) where
  pub fault-skipped : is_skipped line ≡ true → fault_from n count (line ∷ lines) ≡ fault_from (n + 1) count lines
  fault-skipped h = first_of (is_skipped line) _ _ h

  pub fault-step : is_skipped line ≡ false → is_some (line_of line) ≡ true → nat_lt count most_steps ≡ true → fault_from n count (line ∷ lines) ≡ fault_from (n + 1) (count + 1) lines
  fault-step h k e = within (is_skipped line) (is_some (line_of line)) (nat_lt count most_steps) _ _ _ _ h k e

  fault-long : is_skipped line ≡ false → is_some (line_of line) ≡ true → nat_lt count most_steps ≡ false → fault_from n count (line ∷ lines) ≡ Some (Long n)
  fault-long h k e = past (is_skipped line) (is_some (line_of line)) (nat_lt count most_steps) _ _ _ _ h k e

  fault-bad : is_skipped line ≡ false → is_some (line_of line) ≡ false → fault_from n count (line ∷ lines) ≡ Some (Line n)
  fault-bad h k = outside (is_skipped line) (is_some (line_of line)) _ _ _ h k

-- ---- few steps

said-skipped : (line : List ℕ) (lines : List (List ℕ)) → is_skipped line ≡ true → filter_map says (line ∷ lines) ≡ filter_map says lines
said-skipped line lines h = ap (λ b. cons_option (if b then None else line_of line) (filter_map says lines)) h

-- one more at most
length-cons : (o : Option Said) (more : List Said) → length (cons_option o more) ≤ length more + 1
length-cons None more = omega arith
length-cons (Some said) more = omega arith

few_from : (n count : ℕ) (lines : List (List ℕ)) → fault_from n count lines ≡ None → count ≤ 256 → count + length (filter_map says lines) ≤ 256
few_from n count [] h l = omega arith
few_from n count (line ∷ lines) h l =
    elim (kind_of line count) [
      | skipped a ↦ omega (arith, ap length (said-skipped line lines a), few_from (n + 1) count lines (sym (fault-skipped n count line lines a) ∙ h) l)
      | step a b c ↦
          let less = ltb-true count most_steps c in
          omega (arith, length-cons (says line) (filter_map says lines), few_from (n + 1) (count + 1) lines (sym (fault-step n count line lines a b c) ∙ h) (omega arith))
      | long a b c ↦ absurd (some_none (Long n) (sym (fault-long n count line lines a b c) ∙ h))
      | bad a b ↦ absurd (some_none (Line n) (sym (fault-bad n count line lines a b) ∙ h))
    ] where
      some_none : (r : PlanTextRefusal) → Some r ≡ None → ⊥
      some_none r e = cc

-- the lines of a text without a fault say few steps
pub few_said : (bytes : List ℕ) → plan_fault bytes ≡ None → length (said_by bytes) ≤ 256
unfolding plan_fault
few_said bytes h = omega (arith, few_from 1 0 (lines_of bytes) h (omega arith))
