-- The parts of a line, one after another.
use Rattle.std.proofs.Common.{◌≡◌, ℕ, suc, ◌+◌, ◌-◌, ◌<◌, Bool, true, false, not, cond, ◌&&◌, List, [], ◌∷◌, length, take, drop, get_or, slice_range, refl, sym, ap, ◌∙◌, inl, inr, arith}
use Rattle.std.proofs.lemmas.List.{drop-drop, drop_more, length-map, length-append}
use Rattle.std.proofs.lemmas.Bool.{cases_Bool, or_parts, or_from, or_right, and_from, and_left, and_right, not-true, not_from_true, not_from_false}
use Rattle.std.specs.List.{position_or_len}
use Rattle.ps_world.specs.Lines.{lengthened}
use Rattle.ps_text.specs.Words.{is_blank, pieces}
use Rattle.ps_text.specs.declared.spans.Span.{Span}
use Rattle.ps_text.proofs.Pieces.{Marked, first-yes, first-no}
use Rattle.ps_plan.specs.PlanText.{goes_on, is_mark, is_word_byte, parts_of}
use Rattle.ps_plan.proofs.Limits.{outside}

abbrev pub is_other : ℕ → Bool
is_other b = not (is_word_byte b)

-- ---- the steps of the parts of a line that begins with a byte

second_of : {A : Type 0} (p q : Bool) (x y z : A) → p ≡ false → q ≡ true → cond p x (cond q y z) ≡ y
second_of p q x y z h k = rw (h, k)

pub parts-alone : (b : ℕ) (bs : List ℕ) → is_blank b ≡ false → (is_word_byte b && goes_on bs) ≡ false → parts_of (b ∷ bs) ≡ (b ∷ []) ∷ parts_of bs
parts-alone b bs = outside (is_blank b) (is_word_byte b && goes_on bs) (parts_of bs) (lengthened b (parts_of bs)) ((b ∷ []) ∷ parts_of bs)

pub parts-longer : (b : ℕ) (bs : List ℕ) → is_blank b ≡ false → (is_word_byte b && goes_on bs) ≡ true → parts_of (b ∷ bs) ≡ lengthened b (parts_of bs)
parts-longer b bs = second_of (is_blank b) (is_word_byte b && goes_on bs) (parts_of bs) (lengthened b (parts_of bs)) ((b ∷ []) ∷ parts_of bs)

pub word_parts : (b : ℕ) → is_word_byte b ≡ true → (is_blank b ≡ false) × (is_mark b ≡ false)
word_parts b h = or_parts (is_blank b) (is_mark b) (not-true _ h)

pub parts-mark : (b : ℕ) (bs : List ℕ) → is_blank b ≡ false → is_mark b ≡ true → parts_of (b ∷ bs) ≡ (b ∷ []) ∷ parts_of bs
parts-mark b bs black mark = parts-alone b bs black (and_left (is_word_byte b) (goes_on bs) (not_from_true _ (or_right (is_blank b) (is_mark b) mark)))

pub parts-word : (b : ℕ) (bs : List ℕ) → is_word_byte b ≡ true → parts_of (b ∷ bs) ≡ (b ∷ take (position_or_len is_other bs) bs) ∷ parts_of (drop (position_or_len is_other bs) bs)
parts-word b [] h = parts-alone b [] (word_parts b h).0 (and_right (is_word_byte b) false refl)
parts-word b (c ∷ cs) h =
    let black = (word_parts b h).0 in
    let F : ℕ → List (List ℕ) = λ n. (b ∷ take n (c ∷ cs)) ∷ parts_of (drop n (c ∷ cs)) in
    elim (cases_Bool (is_word_byte c)) [
      | inl longer ↦
          parts-longer b (c ∷ cs) black (and_from (is_word_byte b) (is_word_byte c) h longer)
          ∙ ap (lengthened b) (parts-word c cs longer)
          ∙ sym (ap F (first-no is_other c cs (not_from_true (is_word_byte c) longer)))
      | inr other ↦
          parts-alone b (c ∷ cs) black (and_right (is_word_byte b) (is_word_byte c) other)
          ∙ sym (ap F (first-yes is_other c cs (not_from_false (is_word_byte c) other)))
    ]

-- ---- the steps at a place of a line

module _ (line : List ℕ) (from : ℕ) (in' : from < length line) where
  abbrev b : ℕ
  b = get_or line from 0

  abbrev bs : List ℕ
  bs = drop (from + 1) line

  cut : drop from line ≡ b ∷ bs
  cut = drop_more line from 0 in'

  pub parts-at_mark : is_blank b ≡ false → is_mark b ≡ true → parts_of (drop from line) ≡ slice_range line from (from + 1) ∷ parts_of bs
  parts-at_mark h k =
      let one : from + 1 - from ≡ 1 = omega arith in
      ap parts_of cut ∙ parts-mark b bs h k ∙ ap (λ l. l ∷ parts_of bs) (sym (ap (λ n. take n (drop from line)) one ∙ ap (take 1) cut))

  pub parts-at_word : (to : ℕ) → is_blank b ≡ false → is_mark b ≡ false → to ≡ from + 1 + position_or_len is_other bs → parts_of (drop from line) ≡ slice_range line from to ∷ parts_of (drop to line)
  parts-at_word to h k e =
      let n : ℕ = position_or_len is_other bs in
      let count : to - from ≡ suc n = omega arith in
      let word : is_word_byte b ≡ true = not_from_false _ (or_from (is_blank b) (is_mark b) h k) in
      ap parts_of cut
      ∙ parts-word b bs word
      ∙ ap (λ l. l ∷ parts_of (drop n bs)) (sym (ap (λ m. take m (drop from line)) count ∙ ap (take (suc n)) cut))
      ∙ ap (λ l. slice_range line from to ∷ parts_of l) (drop-drop n (from + 1) line ∙ ap (λ m. drop m line) (sym e))

-- ---- the loop over the parts

-- the parts that are marked are fewer than all where one more stands
pub Marked-some : (line : List ℕ) (spans : List Span) (from : ℕ) (part : List ℕ) (more : List (List ℕ)) → Marked parts_of line spans from → parts_of (drop from line) ≡ part ∷ more → length spans < length (parts_of line)
Marked-some line spans from part more m e =
    omega (arith, ap length m.joined, length-append (pieces line spans) (parts_of (drop from line)), ap length e, length-map spans (λ s. slice_range line s.from s.to))
