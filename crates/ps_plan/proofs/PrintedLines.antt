-- What a printed line says.
use Rattle.std.proofs.Common.{◌≡◌, ℕ, suc, ◌+◌, ◌-◌, ◌≤◌, ◌==◌, true, false, ◌&&◌, nat_le, if◌then◌else◌, Some, None, Ok, ℤ, pos, negsuc, ◌≤ℤ◌, List, [], ◌∷◌, ◌++◌, length, take, drop, get_or, codes, refl, ap, ◌∙◌, arith}
use Rattle.std.proofs.lemmas.Bool.{and_from, and_left, and_parts, le-leb, or_from}
use Rattle.std.proofs.lemmas.Int.{ints}
use Rattle.std.proofs.lemmas.List.{length-append, get_or-append-add, take_at}
use Rattle.std.specs.List.{list_all}
use Rattle.std.specs.Option.{option_map, option_zip}
use Rattle.ps_world.specs.Lines.{same_text}
use Rattle.ps_world.specs.Numbers.{number_text}
use Rattle.ps_text.specs.Names.{is_name}
use Rattle.ps_text.specs.Words.{is_blank, word_at}
use Rattle.ps_text.proofs.Printed.{number_of-printed}
use Rattle.ps_plan.specs.Laws.{IsAmount}
use Rattle.ps_plan.specs.PlanText.{Said, amount_of, fits, has_marks, is_mark_at, is_skipped, is_word_byte, line_of, most_parts, names_from, not_negative, parts_of, said_of, times_of}
use Rattle.ps_plan.proofs.PartSteps.{word_parts}
use Rattle.ps_plan.proofs.PrintedParts.{is_word, printed_parts}

-- ---- numbers

plain : (z : ℤ) → pos 0 ≤ℤ z → not_negative (Ok z) ≡ Some z
plain (pos n) h = refl
plain (negsuc n) h = absurd (omega (arith, ints))

amount_of-printed : (z : ℤ) → IsAmount z → amount_of (number_text z) ≡ Some z
amount_of-printed z h = ap not_negative (number_of-printed z h.1) ∙ plain z h.0

-- ---- the parts of a line

module _ (time : List ℕ) (action : List ℕ) (args : List (List ℕ)) (duration : List ℕ) where
  abbrev names : List (List ℕ)
  names = action ∷ args

  abbrev tail : List (List ℕ)
  tail = codes ")" ∷ codes "[" ∷ duration ∷ codes "]" ∷ []

  abbrev parts : List (List ℕ)
  parts = printed_parts time names duration

  abbrev k : ℕ
  k = length names

  count : length parts ≡ suc (suc (suc (suc (suc (suc (suc k))))))
  count = omega (arith, length-append names tail)

  front : length parts - 4 ≡ suc (suc (suc k))
  front = omega (arith, count)

  -- a part after the names
  after : (i j : ℕ) → i ≡ suc (suc (suc (k + j))) → word_at parts i ≡ word_at tail j
  after i j e = ap (word_at parts) e ∙ get_or-append-add names tail j []

  taken : take (length parts - 4) parts ≡ time ∷ codes ":" ∷ codes "(" ∷ names
  taken = ap (λ n. take n parts) front ∙ ap (λ l. time ∷ codes ":" ∷ codes "(" ∷ l) (take_at names tail k refl)

  names-are : names_from parts 3 ≡ names
  names-are = ap (drop 3) taken

  pub args-are : names_from parts 4 ≡ args
  args-are = ap (drop 4) taken

  pub duration-is : word_at parts (length parts - 2) ≡ duration
  duration-is = after (length parts - 2) 2 (omega (arith, count))

  mark-at : (i j b : ℕ) → i ≡ suc (suc (suc (k + j))) → is_mark_at tail j b ≡ true → is_mark_at parts i b ≡ true
  mark-at i j b e h = ap (λ w. same_text w (b ∷ [])) (after i j e) ∙ h

  marks-printed : has_marks parts ≡ true
  marks-printed =
      and_from (is_mark_at parts 1 58 && is_mark_at parts 2 40) _ refl
      (and_from (is_mark_at parts (length parts - 4) 41 && is_mark_at parts (length parts - 3) 91) (is_mark_at parts (length parts - 1) 93)
      (and_from (is_mark_at parts (length parts - 4) 41) (is_mark_at parts (length parts - 3) 91)
      (mark-at (length parts - 4) 0 41 (omega (arith, count)) refl) (mark-at (length parts - 3) 1 91 (omega (arith, count)) refl))
      (mark-at (length parts - 1) 3 93 (omega (arith, count)) refl))

  fits-printed : list_all is_name names ≡ true → length args ≤ 6 → fits parts ≡ true
  fits-printed named few =
      and_from (nat_le 8 (length parts) && nat_le (length parts) most_parts) (has_marks parts && list_all is_name (names_from parts 3))
      (and_from (nat_le 8 (length parts)) (nat_le (length parts) most_parts) (le-leb 8 (length parts) (omega (arith, count))) (le-leb (length parts) 14 (omega (arith, count))))
      (and_from (has_marks parts) (list_all is_name (names_from parts 3)) marks-printed (ap (list_all is_name) names-are ∙ named))

  -- the times of parts that fit
  times-fit : (t d : ℤ) → fits parts ≡ true → amount_of time ≡ Some t → amount_of duration ≡ Some d → times_of parts ≡ Some (t, d)
  unfolding times_of
  times-fit t d h is lasts =
      ap (λ b. if b then option_zip (amount_of time) (amount_of (word_at parts (length parts - 2))) else None) h
      ∙ ap (λ o. option_zip o (amount_of (word_at parts (length parts - 2)))) is
      ∙ ap (λ w. option_zip (Some t) (amount_of w)) duration-is
      ∙ ap (option_zip (Some t)) lasts

-- what a step's line says
abbrev pub said_with : ℤ → List ℕ → List (List ℕ) → ℤ → Said
said_with time action args duration = record { time = time; action = action; args = args; duration = duration }

module _ (line : List ℕ) (time : ℤ) (action : List ℕ) (args : List (List ℕ)) (duration : ℤ) where
  abbrev printed : List (List ℕ)
  printed = printed_parts (number_text time) (action ∷ args) (number_text duration)

  pub line_of-printed : parts_of line ≡ printed → list_all is_name (action ∷ args) ≡ true → length args ≤ 6 → IsAmount time → IsAmount duration
      → line_of line ≡ Some (said_with time action args duration)
  line_of-printed e named few t d =
      let fit = fits-printed (number_text time) action args (number_text duration) named few in
      ap (λ ps. option_map (said_of ps) (times_of ps)) e
      ∙ ap (option_map (said_of printed)) (times-fit (number_text time) action args (number_text duration) time duration fit (amount_of-printed time t) (amount_of-printed duration d))
      ∙ ap (λ found. Some (said_with time action found duration)) (args-are (number_text time) action args (number_text duration))

-- ---- lines that say something

pub is_skipped-word : (text rest : List ℕ) → is_word text ≡ true → (get_or text 0 0 == 59) ≡ false → is_skipped (text ++ rest) ≡ false
is_skipped-word [] rest h k = absurd (cc)
is_skipped-word (b ∷ bs) rest h k =
    let byte = (and_parts (is_word_byte b) (list_all is_word_byte bs) h).0 in
    or_from (b == 59) (list_all is_blank (b ∷ (bs ++ rest))) k (and_left (is_blank b) (list_all is_blank (bs ++ rest)) (word_parts b byte).0)
