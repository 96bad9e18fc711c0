-- The parts of a number's text, and the number that digits write.
use Rattle.std.proofs.Common.{◌≡◌, ℕ, zero, suc, ◌+◌, ◌-◌, ◌*◌, ◌<◌, ◌≤◌, ◌==◌, min, Bool, true, false, ◌||◌, List, [], ◌∷◌, ◌++◌, length, take, drop, get_or, refl, sym, ap, ◌∙◌, arith}
use Rattle.std.proofs.lemmas.List.{length-take, drop_all, drop_more}
use Rattle.std.proofs.lemmas.List.Folds.{list_all-append}
use Rattle.std.proofs.lemmas.Bool.{and_parts, and_from, eqb-true}
use Rattle.std.proofs.lemmas.Bool.Decides.{nat_tests}
use Rattle.std.specs.Char.{digit_value, is_ascii_digit}
use Rattle.std.specs.List.{list_all, position_or_len}
use Rattle.std.specs.Str.Parse.{digits_value_after}
use Rattle.ps_text.specs.Decimals.{are_digits, count_of, first_decimals, fraction_part, is_plain, is_point, whole_part}

-- ---- the parts

pub first_decimals-filled : (fraction : List ℕ) (n : ℕ) → n ≡ min (length fraction) 3 → take n fraction ++ drop n (48 ∷ 48 ∷ 48 ∷ []) ≡ first_decimals fraction
first_decimals-filled [] n e = let is : n ≡ 0 = omega arith in rw is
first_decimals-filled (a ∷ []) n e = let is : n ≡ 1 = omega arith in rw is
first_decimals-filled (a ∷ b ∷ []) n e = let is : n ≡ 2 = omega arith in rw is
first_decimals-filled (a ∷ b ∷ c ∷ ds) n e = let is : n ≡ 3 = omega arith in rw is

-- ---- every element passes

module _ {X : Type 0} (p : X → Bool) where
  pub list_all-get_or : (xs : List X) (i : ℕ) (d : X) → list_all p xs ≡ true → i < length xs → p (get_or xs i d) ≡ true
  list_all-get_or [] i d h l = absurd (omega arith)
  list_all-get_or (x ∷ xs) zero d h l = (and_parts (p x) (list_all p xs) h).0
  list_all-get_or (x ∷ xs) (suc i) d h l = list_all-get_or xs i d (and_parts (p x) (list_all p xs) h).1 (omega arith)

  pub list_all-take : (n : ℕ) (xs : List X) → list_all p xs ≡ true → list_all p (take n xs) ≡ true
  list_all-take zero xs h = refl
  list_all-take (suc n) [] h = refl
  list_all-take (suc n) (x ∷ xs) h =
      let parts = and_parts (p x) (list_all p xs) h in
      and_from (p x) (list_all p (take n xs)) parts.0 (list_all-take n xs parts.1)

pub digits-first_decimals : (fraction : List ℕ) → list_all is_ascii_digit fraction ≡ true → list_all is_ascii_digit (first_decimals fraction) ≡ true
digits-first_decimals fraction h =
    list_all-take is_ascii_digit 3 (fraction ++ 48 ∷ 48 ∷ 48 ∷ [])
    (list_all-append is_ascii_digit fraction (48 ∷ 48 ∷ 48 ∷ []) ∙ and_from (list_all is_ascii_digit fraction) true h refl)

-- ---- values, up to a number past which they stay

capped-step : (most n v : ℕ) → min (min n most * 10 + v) most ≡ min (n * 10 + v) most
capped-step most n v = omega arith

pub value-capped : (most n : ℕ) (ds : List ℕ) → min (digits_value_after 10 (min n most) ds) most ≡ min (digits_value_after 10 n ds) most
value-capped most n [] = omega arith
value-capped most n (d ∷ ds) =
    sym (value-capped most (min n most * 10 + digit_value d) ds)
    ∙ ap (λ m. min (digits_value_after 10 m ds) most) (capped-step most n (digit_value d))
    ∙ value-capped most (n * 10 + digit_value d) ds

pub value-append : (n : ℕ) (xs ys : List ℕ) → digits_value_after 10 n (xs ++ ys) ≡ digits_value_after 10 (digits_value_after 10 n xs) ys
value-append n [] ys = refl
value-append n (x ∷ xs) ys = value-append (n * 10 + digit_value x) xs ys

value-digit : (d : ℕ) → is_ascii_digit d ≡ true → digit_value d ≡ d - 48
value-digit d h = grind (arith, nat_tests)

-- one more digit
pub value-more : (most value next i whole : ℕ) (digits : List ℕ) → list_all is_ascii_digit digits ≡ true → i < length digits → next ≡ min (value * 10 + (get_or digits i 0 - 48)) most
    → min (digits_value_after 10 value (drop i digits)) most ≡ whole → min (digits_value_after 10 next (drop (i + 1) digits)) most ≡ whole
value-more most value next i whole digits h l e before =
    let d = value-digit (get_or digits i 0) (list_all-get_or is_ascii_digit digits i 0 h l) in
    let step : value * 10 + (get_or digits i 0 - 48) ≡ value * 10 + digit_value (get_or digits i 0) = ap (λ m. value * 10 + m) (sym d) in
    ap (λ m. min (digits_value_after 10 m (drop (i + 1) digits)) most) (e ∙ ap (λ m. min m most) step)
    ∙ value-capped most (value * 10 + digit_value (get_or digits i 0)) (drop (i + 1) digits)
    ∙ ap (λ l. min (digits_value_after 10 value l) most) (sym (drop_more digits i 0 l))
    ∙ before

-- ---- a text of digits, or of digits, `.` and digits

fraction-digits : (text : List ℕ) (b : Bool) → (length (whole_part text) == length text) ≡ b → (b || are_digits (fraction_part text)) ≡ true → list_all is_ascii_digit (fraction_part text) ≡ true
fraction-digits text true e h =
    let none : length text ≤ position_or_len is_point text + 1 = omega (arith, eqb-true _ _ e, length-take (position_or_len is_point text) text) in
    rw (drop_all (position_or_len is_point text + 1) text none)
fraction-digits text false e h = (and_parts _ (list_all is_ascii_digit (fraction_part text)) h).1

pub plain-digits : (text : List ℕ) → is_plain text ≡ true → (list_all is_ascii_digit (whole_part text) ≡ true) × (list_all is_ascii_digit (fraction_part text) ≡ true)
plain-digits text h =
    let parts = and_parts (are_digits (whole_part text)) (length (whole_part text) == length text || are_digits (fraction_part text)) h in
    ((and_parts _ (list_all is_ascii_digit (whole_part text)) parts.0).1, fraction-digits text _ refl parts.1)

pub count-capped : (most whole all : ℕ) (text : List ℕ) → whole ≡ min (digits_value_after 10 0 (whole_part text)) most → all ≡ min (digits_value_after 10 whole (first_decimals (fraction_part text))) most → all ≡ min (count_of text) most
count-capped most whole all text w a =
    a
    ∙ ap (λ m. min (digits_value_after 10 m (first_decimals (fraction_part text))) most) w
    ∙ value-capped most (digits_value_after 10 0 (whole_part text)) (first_decimals (fraction_part text))
    ∙ ap (λ m. min m most) (sym (value-append 0 (whole_part text) (first_decimals (fraction_part text))))
