-- Numbers that are printed: their digits, and reading them back.
use Rattle.std.proofs.Common.{◌≡◌, ℕ, suc, ◌+◌, ◌-◌, ◌/◌, ◌%◌, ◌^◌, ◌<◌, ◌≤◌, List, [], ◌∷◌, ◌++◌, length, take, drop, set, decimal, ℤ, pos, negsuc, ◌≤ℤ◌, ◌<ℤ◌, unsigned_abs, neg_ℤ, nat_le, ◌==◌, Bool, true, false, cond, Ok, get_or, rules, refl, sym, ap, ◌∙◌, arith, append_assoc}
use Rattle.std.proofs.lemmas.List.{append-nil, drop-set, drop_all, drop_at, drop-drop, get_or_append_left, length-append, take_at, length-drop, length-take-le, length_push}
use Rattle.std.proofs.lemmas.Fmt.{decimal_digit, decimal_step, decimal_nonempty, length-decimal-le, digits_decimal, digits_value-decimal}
use Rattle.std.proofs.lemmas.Int.{ints}
use Rattle.std.proofs.lemmas.Str.Parse.{IsNumeralModel, numerals_by_value}
use Rattle.std.proofs.lemmas.Bool.{and_parts, and_from, or_right, not_from_false, ne_eqb, le-leb}
use Rattle.std.proofs.lemmas.Bool.Decides.{nat_tests}
use Rattle.std.specs.Char.{digit_value, is_ascii_digit}
use Rattle.std.specs.List.{list_all, position_or_len}
use Rattle.std.specs.Result.{result_map_both}
use Rattle.std.specs.Str.Parse.{digits_value, digits_value_after}
use Rattle.ps_world.specs.Numbers.{IsCount, magnitude_text, number_text}
use Rattle.ps_text.proofs.Digits.{list_all-get_or, value-append}
use Rattle.ps_text.proofs.Pieces.{first-no}
use Rattle.ps_text.specs.Decimals.{are_digits, count_of, fraction_part, is_coarse, is_plain, is_point, magnitude_of, number_of, whole_part}

-- ---- digits, the last first

-- the first so many digits of a number are still to be written before a place
pub record Written (n end : ℕ) (old : List ℕ) (rest at : ℕ) (text : List ℕ) : Type 0 where
  pub digits : decimal rest ++ drop at text ≡ decimal n ++ drop end old
  pub place : at + length (decimal n) ≡ end + length (decimal rest)
  pub within : at ≤ end

pub Written-room : (n end : ℕ) (old : List ℕ) (rest at : ℕ) (text : List ℕ) → Written n end old rest at text → length (decimal n) ≤ end → rest < 2 ^ 64 → 0 < at
Written-room n end old rest at text w room small = omega (arith, w.place, decimal_nonempty rest small)

pub Written-more : (n end : ℕ) (old : List ℕ) (rest at : ℕ) (text : List ℕ) → Written n end old rest at text → length (decimal n) ≤ end → end ≤ length text → 10 ≤ rest → rest < 2 ^ 64
    → Written n end old (rest / 10) (at - 1) (set text (at - 1) (48 + rest % 10))
Written-more n end old rest at text w room inside big small =
    let some = Written-room n end old rest at text w room small in
    let step = decimal_step rest big small in
    let next : at - 1 + 1 ≡ at = omega arith in
    let cut : drop (at - 1) (set text (at - 1) (48 + rest % 10)) ≡ (48 + rest % 10) ∷ drop at text =
    drop-set text (at - 1) (48 + rest % 10) (omega (arith, w.within)) ∙ ap (λ k. (48 + rest % 10) ∷ drop k text) next in
    record {
      digits =
          ap (λ l. decimal (rest / 10) ++ l) cut
          ∙ sym (append_assoc (decimal (rest / 10)) ((48 + rest % 10) ∷ []) (drop at text))
          ∙ ap (λ l. l ++ drop at text) (sym step)
          ∙ w.digits;
      place = omega (arith, w.place, ap length step, length_push (decimal (rest / 10)) (48 + rest % 10));
      within = omega (arith, w.within);
    }

pub Written-all : (n end : ℕ) (old : List ℕ) (rest at : ℕ) (text : List ℕ) → Written n end old rest at text → length (decimal n) ≤ end → end ≤ length text → rest < 10
    → (at - 1 + length (decimal n) ≡ end) × (drop (at - 1) (set text (at - 1) (48 + rest)) ≡ decimal n ++ drop end old)
Written-all n end old rest at text w room inside less =
    let some = Written-room n end old rest at text w room (omega arith) in
    let step = decimal_digit rest less in
    let next : at - 1 + 1 ≡ at = omega arith in
    let cut : drop (at - 1) (set text (at - 1) (48 + rest)) ≡ (48 + rest) ∷ drop at text =
    drop-set text (at - 1) (48 + rest) (omega (arith, w.within)) ∙ ap (λ k. (48 + rest) ∷ drop k text) next in
    (omega (arith, w.place, ap length step), cut ∙ ap (λ l. l ++ drop at text) (sym step) ∙ w.digits)

-- ---- the text of a number

pub decimal-short : (n : ℕ) → n ≤ 10 ^ 15 → length (decimal (n / 1000)) ≤ 13
decimal-short n h = length-decimal-le 13 (n / 1000) (omega arith) (omega arith) (omega arith)

pub number_text-plain : (z : ℤ) → pos 0 ≤ℤ z → number_text z ≡ magnitude_text (unsigned_abs z)
number_text-plain (pos n) h = refl
number_text-plain (negsuc n) h = absurd (omega (arith, ints))

pub number_text-minus : (z : ℤ) → z <ℤ pos 0 → number_text z ≡ 45 ∷ magnitude_text (unsigned_abs z)
number_text-minus (pos n) h = absurd (omega (arith, ints))
number_text-minus (negsuc n) h = refl

-- what stands from place 20 on after a write there
pub drop-written : (old part : List ℕ) → length old ≡ 24 → drop 20 (take 20 old ++ (part ++ drop 4 (drop 20 old))) ≡ part
drop-written old part h =
    let none : drop 4 (drop 20 old) ≡ [] = drop_all 4 (drop 20 old) (omega (arith, length-drop 20 old)) in
    drop_at (take 20 old) (part ++ drop 4 (drop 20 old)) 20 (length-take-le 20 old (omega arith)) ∙ ap (λ l. part ++ l) none ∙ append-nil part

-- one more byte before a text
pub drop-before : (text : List ℕ) (first b : ℕ) → 0 < first → first ≤ length text → drop (first - 1) (set text (first - 1) b) ≡ b ∷ drop first text
drop-before text first b some within =
    let next : first - 1 + 1 ≡ first = omega arith in
    drop-set text (first - 1) b (omega arith) ∙ ap (λ k. b ∷ drop k text) next

-- ---- reading a printed number

-- texts of digits, and what they write
digit_texts : IsNumeralModel (λ ds. list_all is_ascii_digit ds ≡ true) (digits_value 10)
digit_texts = numerals_by_value (λ ds. list_all is_ascii_digit ds ≡ true) (search rules)

no_point : (b : ℕ) → is_ascii_digit b ≡ true → is_point b ≡ false
no_point b h = grind (arith, nat_tests)

pub no_minus : (b : ℕ) → is_ascii_digit b ≡ true → (b == 45) ≡ false
no_minus b h = grind (arith, nat_tests)

pub is_digit : (d : ℕ) → d < 10 → is_ascii_digit (48 + d) ≡ true
is_digit d h = grind (arith, nat_tests)

value-of_digit : (d : ℕ) → d < 10 → digit_value (48 + d) ≡ d
value-of_digit d h = grind (arith, nat_tests)

point-after : (ds rest : List ℕ) → list_all is_ascii_digit ds ≡ true → position_or_len is_point (ds ++ 46 ∷ rest) ≡ length ds
point-after [] rest h = refl
point-after (d ∷ ds) rest h =
    let parts = and_parts (is_ascii_digit d) (list_all is_ascii_digit ds) h in
    first-no is_point d (ds ++ 46 ∷ rest) (no_point d parts.0) ∙ ap suc (point-after ds rest parts.1)

module _ (ds rest : List ℕ) (h : list_all is_ascii_digit ds ≡ true) where
  whole_part-printed : whole_part (ds ++ 46 ∷ rest) ≡ ds
  whole_part-printed = take_at ds (46 ∷ rest) _ (sym (point-after ds rest h))

  fraction_part-printed : fraction_part (ds ++ 46 ∷ rest) ≡ rest
  fraction_part-printed =
      ap (λ n. drop (n + 1) (ds ++ 46 ∷ rest)) (point-after ds rest h)
      ∙ sym (drop-drop 1 (length ds) (ds ++ 46 ∷ rest))
      ∙ ap (drop 1) (drop_at ds (46 ∷ rest) (length ds) refl)

-- the count that three decimals write after whole digits
count-printed : (n : ℕ) → digits_value_after 10 (n / 1000) ((48 + n / 100 % 10) ∷ (48 + n / 10 % 10) ∷ (48 + n % 10) ∷ []) ≡ n
count-printed n = rw (value-of_digit (n / 100 % 10) (omega arith), value-of_digit (n / 10 % 10) (omega arith), value-of_digit (n % 10) (omega arith)) (omega arith)

pub are_digits-from : (text : List ℕ) → 0 < length text → list_all is_ascii_digit text ≡ true → are_digits text ≡ true
are_digits-from text some h = and_from _ _ (not_from_false _ (ne_eqb (length text) 0 (λ e. omega arith))) h

is_plain-from : (text : List ℕ) → are_digits (whole_part text) ≡ true → are_digits (fraction_part text) ≡ true → is_plain text ≡ true
is_plain-from text whole fraction = and_from _ _ whole (or_right _ _ fraction)

-- the answer of three tests, each within the one before
first_of_three : {A : Type 0} (p q r : Bool) (x y z w : A) → p ≡ true → q ≡ true → r ≡ true → cond p (cond q (cond r x y) z) w ≡ x
first_of_three p q r x y z w h k e = rw (h, k, e)

module _ (n : ℕ) (h : n ≤ 10 ^ 15) where
  abbrev ds : List ℕ
  ds = decimal (n / 1000)

  abbrev rest : List ℕ
  rest = (48 + n / 100 % 10) ∷ (48 + n / 10 % 10) ∷ (48 + n % 10) ∷ []

  digits-ds : list_all is_ascii_digit ds ≡ true
  digits-ds = digits_decimal digit_texts (n / 1000) (omega arith)

  digits-rest : list_all is_ascii_digit rest ≡ true
  digits-rest = rw (is_digit (n / 100 % 10) (omega arith), is_digit (n / 10 % 10) (omega arith), is_digit (n % 10) (omega arith))

  is_plain-printed : is_plain (magnitude_text n) ≡ true
  is_plain-printed =
      is_plain-from (magnitude_text n)
      (rw (whole_part-printed ds rest digits-ds) (are_digits-from ds (decimal_nonempty (n / 1000) (omega arith)) digits-ds))
      (rw (fraction_part-printed ds rest digits-ds) (are_digits-from rest (omega arith) digits-rest))

  is_coarse-printed : is_coarse (magnitude_text n) ≡ true
  is_coarse-printed = rw (fraction_part-printed ds rest digits-ds)

  count_of-printed : count_of (magnitude_text n) ≡ n
  count_of-printed =
      rw (whole_part-printed ds rest digits-ds, fraction_part-printed ds rest digits-ds, value-append 0 ds rest, digits_value-decimal digit_texts (n / 1000) (omega arith))
      (count-printed n)

  magnitude_of-printed : magnitude_of (magnitude_text n) ≡ Ok n
  magnitude_of-printed =
      let small : nat_le (count_of (magnitude_text n)) (10 ^ 15) ≡ true = rw count_of-printed (le-leb n (10 ^ 15) h) in
      first_of_three _ _ _ _ _ _ _ is_plain-printed is_coarse-printed small
      ∙ ap Ok count_of-printed

number_of-plain : (text : List ℕ) → 0 < length text → (get_or text 0 0 == 45) ≡ false → number_of text ≡ result_map_both pos (λ e. e) (magnitude_of text)
number_of-plain [] some h = absurd (omega arith)
number_of-plain (b ∷ bs) some h = rw h

pub number_of-printed : (z : ℤ) → IsCount z → number_of (number_text z) ≡ Ok z
number_of-printed (pos n) h =
    let some = decimal_nonempty (n / 1000) (omega arith) in
    let first = list_all-get_or is_ascii_digit (ds n h) 0 0 (digits-ds n h) some in
    let minus : (get_or (magnitude_text n) 0 0 == 45) ≡ false = rw (get_or_append_left (ds n h) (46 ∷ rest n h) 0 0 some) (no_minus _ first) in
    number_of-plain (magnitude_text n) (omega (arith, length-append (ds n h) (46 ∷ rest n h), some)) minus ∙ ap (result_map_both pos (λ e. e)) (magnitude_of-printed n h)
number_of-printed (negsuc n) h = ap (result_map_both (λ n. neg_ℤ (pos n)) (λ e. e)) (magnitude_of-printed (suc n) h)
