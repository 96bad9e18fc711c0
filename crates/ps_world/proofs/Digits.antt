-- The digits that a number is printed with.
use Rattle.std.proofs.Common.{◌≡◌, ℕ, ◌<◌, ◌/◌, ◌%◌, ◌==◌, ◌&&◌, Bool, true, false, not, suc, zero, List, [], ◌∷◌, if◌then◌else◌, refl, arith}
use Rattle.std.proofs.lemmas.Bool.Decides.{nat_tests}
use Rattle.std.specs.List.{list_all}
use Rattle.std.specs.Fmt.{digits, digits_onto, digit_glyph, decimal}

-- a byte that is no LF and no space
abbrev pub is_ink : ℕ → Bool
is_ink b = not (b == 10) && not (b == 32)

-- at least one byte, and each of them ink
abbrev pub is_inked : List ℕ → Bool
is_inked [] = false
is_inked (b ∷ bs) = is_ink b && list_all is_ink bs

is_ink-glyph : (d : ℕ) → d < 10 → is_ink (digit_glyph false d) ≡ true
is_ink-glyph d h = grind (arith, nat_tests)

is_inked-more : (b : ℕ) (bs : List ℕ) → is_ink b ≡ true → is_inked bs ≡ true → is_inked (b ∷ bs) ≡ true
is_inked-more b [] h t = rw h refl
is_inked-more b (c ∷ cs) h t = rw (h, t) refl

is_inked-digits_onto : (k n : ℕ) (acc : List ℕ) → is_inked acc ≡ true → is_inked (digits_onto k 10 false n acc) ≡ true
is_inked-digits_onto zero n acc h = h
is_inked-digits_onto (suc k) n acc h =
    let more = is_inked-more (digit_glyph false (n % 10)) acc (is_ink-glyph (n % 10) (omega arith)) h in
    elim (n / 10 == 0) as (λ b. is_inked (if b then digit_glyph false (n % 10) ∷ acc else digits_onto k 10 false (n / 10) (digit_glyph false (n % 10) ∷ acc)) ≡ true) [
      | true ↦ more
      | false ↦ is_inked-digits_onto k (n / 10) (digit_glyph false (n % 10) ∷ acc) more
    ]

-- some digits, and then ink
is_inked-digits_onto_none : (k n : ℕ) → is_inked (digits_onto (suc k) 10 false n []) ≡ true
is_inked-digits_onto_none k n =
    let one : is_inked (digit_glyph false (n % 10) ∷ []) ≡ true = rw (is_ink-glyph (n % 10) (omega arith)) refl in
    elim (n / 10 == 0) as (λ b. is_inked (if b then digit_glyph false (n % 10) ∷ [] else digits_onto k 10 false (n / 10) (digit_glyph false (n % 10) ∷ [])) ≡ true) [
      | true ↦ one
      | false ↦ is_inked-digits_onto k (n / 10) (digit_glyph false (n % 10) ∷ []) one
    ]

-- a number's text has a byte, and no byte of it is an LF or a space
pub is_inked-decimal : (n : ℕ) → is_inked (decimal n) ≡ true
unfolding digits
is_inked-decimal n = is_inked-digits_onto_none 63 n
