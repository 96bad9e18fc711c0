-- Words of a text that is cut off at a place.
use Rattle.std.proofs.Common.{◌≡◌, ℕ, zero, suc, ◌+◌, ◌-◌, ◌<◌, ◌≤◌, ◌==◌, Bool, true, false, List, [], ◌∷◌, length, take, drop, get_or, slice_range, refl, sym, ap, ◌∙◌, inl, inr, arith}
use Rattle.std.proofs.lemmas.List.{drop_more, get_or-take, length-take, take-take, drop-take}
use Rattle.std.proofs.lemmas.List.Edits.{between_none}
use Rattle.std.proofs.lemmas.Slice.{between_is}
use Rattle.std.proofs.lemmas.Bool.{cases_Bool}
use Rattle.std.specs.List.{position_or_len}
use Rattle.ps_text.specs.Words.{words, is_blank, is_paren}
use Rattle.ps_text.specs.Tokens.{IsGap, IsFirstWord}
use Rattle.ps_text.proofs.Pieces.{is_lf, first-yes, first-no}
use Rattle.ps_text.proofs.WordSteps.{is_other, words-at_blank, words-at_comment, words-at_paren, words-at_run}

-- ---- cutting keeps what stands before the cut

module _ (p : ℕ → Bool) where
  first-take : (n : ℕ) (xs : List ℕ) → position_or_len p xs ≤ n → position_or_len p (take n xs) ≡ position_or_len p xs
  first-take zero xs h = omega arith
  first-take (suc n) [] h = refl
  first-take (suc n) (x ∷ xs) h =
      elim (cases_Bool (p x)) [
        | inl passes ↦ first-yes p x (take n xs) passes ∙ sym (first-yes p x xs passes)
        | inr fails ↦ first-no p x (take n xs) fails ∙ ap suc (first-take n xs (omega (arith, first-no p x xs fails))) ∙ sym (first-no p x xs fails)
      ]

  -- the first place from a place on, in a text that is cut off
  first-drop_take : (from to end : ℕ) (xs : List ℕ) → to ≡ from + position_or_len p (drop from xs) → to ≤ end → to ≡ from + position_or_len p (drop from (take end xs))
  first-drop_take from to end xs e h =
      let split : from + (end - from) ≡ end = omega arith in
      let cut : drop from (take end xs) ≡ take (end - from) (drop from xs) = ap (λ n. drop from (take n xs)) (sym split) ∙ drop-take from (end - from) xs in
      e ∙ ap (λ n. from + n) (sym (ap (position_or_len p) cut ∙ first-take (end - from) (drop from xs) (omega arith)))

slice_range-take : (xs : List ℕ) (from to end : ℕ) → to ≤ end → slice_range (take end xs) from to ≡ slice_range xs from to
slice_range-take xs from to end h = between_is (take end xs) from to ∙ ap (drop from) (take-take to end xs h) ∙ sym (between_is xs from to)

-- one byte of a text
pub slice_range-one : (xs : List ℕ) (at : ℕ) → at < length xs → slice_range xs at (at + 1) ≡ get_or xs at 0 ∷ []
slice_range-one xs at h =
    let one : at + 1 - at ≡ 1 = omega arith in
    ap (λ n. take n (drop at xs)) one ∙ ap (take 1) (drop_more xs at 0 h)

-- ---- one step in a text that is cut off

module _ (bytes : List ℕ) (from : ℕ) (in' : from < length bytes) where
  abbrev b : ℕ
  b = get_or bytes from 0

  module _ (end : ℕ) (h : from < end) where
    byte : get_or (take end bytes) from 0 ≡ b
    byte = get_or-take end bytes from 0 h

    inside : from < length (take end bytes)
    inside = omega (arith, length-take end bytes)

  pub IsGap-blank : is_blank b ≡ true → IsGap bytes from (from + 1)
  IsGap-blank e = λ end h.
      let l : from < end = omega arith in
      ap words (between_is bytes from end)
      ∙ words-at_blank (take end bytes) from (inside end l) (ap is_blank (byte end l) ∙ e)
      ∙ ap words (sym (between_is bytes (from + 1) end))

  pub IsGap-comment : (to : ℕ) → (b == 59) ≡ true → to ≡ from + 1 + position_or_len is_lf (drop (from + 1) bytes) → IsGap bytes from to
  IsGap-comment to c e = λ end h.
      let l : from < end = omega arith in
      ap words (between_is bytes from end)
      ∙ words-at_comment (take end bytes) from (inside end l) to (ap (λ x. x == 59) (byte end l) ∙ c) (first-drop_take is_lf (from + 1) to end bytes e h)
      ∙ ap words (sym (between_is bytes to end))

  module _ (black : is_blank b ≡ false) (no_comment : (b == 59) ≡ false) where
    pub IsFirstWord-paren : is_paren b ≡ true → IsFirstWord bytes (record { from = from; to = from + 1 })
    IsFirstWord-paren e = λ end h.
        let l : from < end = omega arith in
        ap words (between_is bytes from end)
        ∙ words-at_paren (take end bytes) from (inside end l) (ap is_blank (byte end l) ∙ black) (ap (λ x. x == 59) (byte end l) ∙ no_comment) (ap is_paren (byte end l) ∙ e)
        ∙ ap (λ w. w ∷ words (drop (from + 1) (take end bytes))) (slice_range-take bytes from (from + 1) end h)
        ∙ ap (λ t. slice_range bytes from (from + 1) ∷ words t) (sym (between_is bytes (from + 1) end))

    pub IsFirstWord-run : (to : ℕ) → is_paren b ≡ false → to ≡ from + 1 + position_or_len is_other (drop (from + 1) bytes) → IsFirstWord bytes (record { from = from; to = to })
    IsFirstWord-run to p e = λ end h.
        let l : from < end = omega arith in
        ap words (between_is bytes from end)
        ∙ words-at_run (take end bytes) from (inside end l) to (ap is_blank (byte end l) ∙ black) (ap (λ x. x == 59) (byte end l) ∙ no_comment) (ap is_paren (byte end l) ∙ p) (first-drop_take is_other (from + 1) to end bytes e h)
        ∙ ap (λ w. w ∷ words (drop to (take end bytes))) (slice_range-take bytes from to end h)
        ∙ ap (λ t. slice_range bytes from to ∷ words t) (sym (between_is bytes to end))

-- ---- gaps

pub IsGap-join : (bytes : List ℕ) (from middle to : ℕ) → middle ≤ to → IsGap bytes from middle → IsGap bytes middle to → IsGap bytes from to
IsGap-join bytes from middle to h first second = λ end l. first end (omega arith) ∙ second end l

-- a gap has no word
pub words-gap : (bytes : List ℕ) (from to : ℕ) → IsGap bytes from to → words (slice_range bytes from to) ≡ []
words-gap bytes from to gap = gap to (omega arith) ∙ ap words (between_none bytes to)
