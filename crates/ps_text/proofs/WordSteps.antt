-- Words of a text, one after another.
use Rattle.std.proofs.Common.{◌≡◌, ℕ, suc, ◌+◌, ◌-◌, ◌<◌, ◌==◌, Bool, true, false, not, cond, ◌&&◌, ◌||◌, List, [], ◌∷◌, length, take, drop, get_or, slice_range, refl, sym, ap, ◌∙◌, inl, inr, arith}
use Rattle.std.proofs.lemmas.List.{drop-drop, drop_more}
use Rattle.std.proofs.lemmas.Bool.{cases_Bool, eqb-true, or_parts, or_from, or_left, or_right, and_from, and_left, and_right, not-true, not_from_true, not_from_false}
use Rattle.std.specs.List.{position_or_len}
use Rattle.ps_world.specs.Lines.{lengthened}
use Rattle.ps_text.specs.Names.{lower}
use Rattle.ps_text.specs.Words.{words, skipped, goes_on, is_blank, is_paren, is_run_byte, reads_as}
use Rattle.ps_text.proofs.Pieces.{is_lf, first-yes, first-no}

abbrev pub is_other : ℕ → Bool
is_other b = not (is_run_byte b)

-- ---- the steps of the words of a text that begins with a byte

pub words-blank : (b : ℕ) (bs : List ℕ) → is_blank b ≡ true → words (b ∷ bs) ≡ words bs
words-blank b bs h = rw h

pub words-comment : (b : ℕ) (bs : List ℕ) → (b == 59) ≡ true → words (b ∷ bs) ≡ skipped bs
words-comment b bs h = rw (eqb-true b 59 h)

-- the answer of three tests, one after another
last_of : {A : Type 0} (p q r : Bool) (x y z w : A) → p ≡ false → q ≡ false → r ≡ false → cond p x (cond q y (cond r z w)) ≡ w
last_of p q r x y z w h k e = rw (h, k, e)

third_of : {A : Type 0} (p q r : Bool) (x y z w : A) → p ≡ false → q ≡ false → r ≡ true → cond p x (cond q y (cond r z w)) ≡ z
third_of p q r x y z w h k e = rw (h, k, e)

pub words-alone : (b : ℕ) (bs : List ℕ) → is_blank b ≡ false → (b == 59) ≡ false → (is_run_byte b && goes_on bs) ≡ false → words (b ∷ bs) ≡ (b ∷ []) ∷ words bs
words-alone b bs = last_of (is_blank b) (b == 59) (is_run_byte b && goes_on bs) (words bs) (skipped bs) (lengthened b (words bs)) ((b ∷ []) ∷ words bs)

pub words-longer : (b : ℕ) (bs : List ℕ) → is_blank b ≡ false → (b == 59) ≡ false → (is_run_byte b && goes_on bs) ≡ true → words (b ∷ bs) ≡ lengthened b (words bs)
words-longer b bs = third_of (is_blank b) (b == 59) (is_run_byte b && goes_on bs) (words bs) (skipped bs) (lengthened b (words bs)) ((b ∷ []) ∷ words bs)

-- ---- comments

pub skipped-more : (b : ℕ) (bs : List ℕ) → (b == 10) ≡ false → skipped (b ∷ bs) ≡ skipped bs
skipped-more b bs h = rw h

words-skipped : (xs : List ℕ) → skipped xs ≡ words (drop (position_or_len is_lf xs) xs)
words-skipped [] = refl
words-skipped (b ∷ bs) =
    elim (cases_Bool (b == 10)) [
      | inl lf ↦ rw (eqb-true b 10 lf)
      | inr other ↦ skipped-more b bs other ∙ words-skipped bs ∙ sym (ap (λ n. words (drop n (b ∷ bs))) (first-no is_lf b bs other))
    ]

-- ---- longer words

pub run_parts : (b : ℕ) → is_run_byte b ≡ true → (is_blank b ≡ false) × ((is_paren b || b == 59) ≡ false)
run_parts b h = or_parts (is_blank b) (is_paren b || b == 59) (not-true _ h)

pub words-run : (b : ℕ) (bs : List ℕ) → is_run_byte b ≡ true → words (b ∷ bs) ≡ (b ∷ take (position_or_len is_other bs) bs) ∷ words (drop (position_or_len is_other bs) bs)
words-run b [] h =
    let parts = run_parts b h in
    words-alone b [] parts.0 (or_parts _ _ parts.1).1 (and_right (is_run_byte b) false refl)
words-run b (c ∷ cs) h =
    let parts = run_parts b h in
    let F : ℕ → List (List ℕ) = λ n. (b ∷ take n (c ∷ cs)) ∷ words (drop n (c ∷ cs)) in
    elim (cases_Bool (is_run_byte c)) [
      | inl longer ↦
          words-longer b (c ∷ cs) parts.0 (or_parts _ _ parts.1).1 (and_from (is_run_byte b) (is_run_byte c) h longer)
          ∙ ap (lengthened b) (words-run c cs longer)
          ∙ sym (ap F (first-no is_other c cs (not_from_true (is_run_byte c) longer)))
      | inr other ↦
          words-alone b (c ∷ cs) parts.0 (or_parts _ _ parts.1).1 (and_right (is_run_byte b) (is_run_byte c) other)
          ∙ sym (ap F (first-yes is_other c cs (not_from_false (is_run_byte c) other)))
    ]

-- ---- the steps at a place of a text

module _ (bytes : List ℕ) (from : ℕ) (in' : from < length bytes) where
  abbrev b : ℕ
  b = get_or bytes from 0

  abbrev bs : List ℕ
  bs = drop (from + 1) bytes

  cut : drop from bytes ≡ b ∷ bs
  cut = drop_more bytes from 0 in'

  pub words-at_blank : is_blank b ≡ true → words (drop from bytes) ≡ words bs
  words-at_blank h = ap words cut ∙ words-blank b bs h

  pub words-at_comment : (to : ℕ) → (b == 59) ≡ true → to ≡ from + 1 + position_or_len is_lf bs → words (drop from bytes) ≡ words (drop to bytes)
  words-at_comment to h e = ap words cut ∙ words-comment b bs h ∙ words-skipped bs ∙ ap words (drop-drop (position_or_len is_lf bs) (from + 1) bytes ∙ ap (λ n. drop n bytes) (sym e))

  pub words-at_paren : is_blank b ≡ false → (b == 59) ≡ false → is_paren b ≡ true → words (drop from bytes) ≡ slice_range bytes from (from + 1) ∷ words bs
  words-at_paren h k e =
      let one : from + 1 - from ≡ 1 = omega arith in
      let other : is_run_byte b ≡ false = not_from_true _ (or_right (is_blank b) (is_paren b || b == 59) (or_left (is_paren b) (b == 59) e)) in
      ap words cut ∙ words-alone b bs h k (and_left (is_run_byte b) (goes_on bs) other) ∙ ap (λ l. l ∷ words bs) (sym (ap (λ n. take n (drop from bytes)) one ∙ ap (take 1) cut))

  pub words-at_run : (to : ℕ) → is_blank b ≡ false → (b == 59) ≡ false → is_paren b ≡ false → to ≡ from + 1 + position_or_len is_other bs → words (drop from bytes) ≡ slice_range bytes from to ∷ words (drop to bytes)
  words-at_run to h k p e =
      let n : ℕ = position_or_len is_other bs in
      let count : to - from ≡ suc n = omega arith in
      let run : is_run_byte b ≡ true = not_from_false _ (or_from (is_blank b) _ h (or_from (is_paren b) (b == 59) p k)) in
      ap words cut
      ∙ words-run b bs run
      ∙ ap (λ l. l ∷ words (drop n bs)) (sym (ap (λ m. take m (drop from bytes)) count ∙ ap (take (suc n)) cut))
      ∙ ap (λ l. slice_range bytes from to ∷ words l) (drop-drop n (from + 1) bytes ∙ ap (λ m. drop m bytes) (sym e))

-- ---- reading a fixed word

pub reads_as-drop : (word fixed : List ℕ) (i : ℕ) → i < length word → i < length fixed
    → reads_as (drop i word) (drop i fixed) ≡ ((lower (get_or word i 0) == get_or fixed i 0) && reads_as (drop (i + 1) word) (drop (i + 1) fixed))
reads_as-drop word fixed i h k = rw (drop_more word i 0 h, drop_more fixed i 0 k)
