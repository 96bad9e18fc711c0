-- Lists of places that share no bit share no place.
use Rattle.std.proofs.Common.{◌≡◌, ℕ, ◌%◌, ◌<◌, Bool, true, false, ◌||◌, List, [], ◌∷◌, fold, min, refl, ap, ◌∙◌, arith, inl, inr, bit_and, w64}
use Rattle.std.specs.Prelude.{nat_eq}
use Rattle.std.specs.Int.{bit_at}
use Rattle.std.specs.List.{list_any}
use Rattle.std.proofs.lemmas.Bool.{cases_eq, or_right, false_from_ne_true}
use Rattle.std.proofs.lemmas.Bool.Decides.{nat_tests}
use Rattle.std.proofs.lemmas.Nat.Bits.{bit_at-zero, bit_at_and, bit_at_set_other, bit_at_set_same}
use Rattle.ps_ground.specs.Independence.{bits_of, with_bit}

-- whether a place stands in both lists
abbrev pub share : List ℕ → List ℕ → Bool
share is js = list_any (λ i. list_any (λ j. nat_eq j i) js) is

below : (i : ℕ) → i % 64 < 64
below i = omega arith

bit_kept : (n k i : ℕ) → bit_at n k ≡ 1 → bit_at (with_bit n i) k ≡ 1
bit_kept n k i e =
    elim (cases_eq k (i % 64)) [
      | inl same ↦ ap (bit_at (with_bit n i)) same ∙ bit_at_set_same w64 n (i % 64) (below i)
      | inr other ↦ bit_at_set_other w64 n (i % 64) (below i) k other ∙ e
    ]

bits_kept : (n k : ℕ) (is : List ℕ) → bit_at n k ≡ 1 → bit_at (fold with_bit n is) k ≡ 1
bits_kept n k [] e = e
bits_kept n k (i ∷ is) e = bits_kept (with_bit n i) k is (bit_kept n k i e)

bit_by : (n i j : ℕ) (is : List ℕ) (b : Bool) → nat_eq j i ≡ b → (b || list_any (λ j. nat_eq j i) is) ≡ true → ((m : ℕ) → list_any (λ j. nat_eq j i) is ≡ true → bit_at (fold with_bit m is) (i % 64) ≡ 1) → bit_at (fold with_bit (with_bit n j) is) (i % 64) ≡ 1
bit_by n i j is true e h later =
    let same : j ≡ i = grind (arith, nat_tests, e) in
    bits_kept (with_bit n j) (i % 64) is (ap (λ k. bit_at (with_bit n k) (i % 64)) same ∙ bit_at_set_same w64 n (i % 64) (below i))
bit_by n i j is false e h later = later (with_bit n j) h

-- a place of a list has its bit
has_bit : (n i : ℕ) (is : List ℕ) → list_any (λ j. nat_eq j i) is ≡ true → bit_at (fold with_bit n is) (i % 64) ≡ 1
has_bit n i [] e = absurd (cc)
has_bit n i (j ∷ is) e = bit_by n i j is (nat_eq j i) refl e (λ m. has_bit m i is)

pub itself : (i : ℕ) → nat_eq i i ≡ true
itself i = grind (arith, nat_tests)

no_bit : (x y k : ℕ) → bit_and x y ≡ 0 → bit_at x k ≡ 1 → bit_at y k ≡ 1 → ⊥
no_bit x y k e f g =
    let both : bit_at (bit_and x y) k ≡ 1 = bit_at_and x y k ∙ (λ i. min (f i) (g i)) in
    let none : bit_at (bit_and x y) k ≡ 0 = ap (λ n. bit_at n k) e ∙ bit_at-zero k in
    omega (arith, both, none)

no_place : (x : ℕ) (is js : List ℕ) → ((i : ℕ) → list_any (λ j. nat_eq j i) is ≡ true → bit_at x (i % 64) ≡ 1) → bit_and x (bits_of js) ≡ 0 → share is js ≡ false
no_place x [] js h e = refl
no_place x (i ∷ is) js h e =
    let first : list_any (λ j. nat_eq j i) js ≡ false = false_from_ne_true (list_any (λ j. nat_eq j i) js) (λ there. no_bit x (bits_of js) (i % 64) e (h i (first_there i is)) (has_bit 0 i js there)) in
    rw first (no_place x is js (λ j there. h j (later j i is there)) e)
  where
    first_there : (i : ℕ) (is : List ℕ) → list_any (λ j. nat_eq j i) (i ∷ is) ≡ true
    first_there i is = rw (itself i) refl

    later : (k i : ℕ) (is : List ℕ) → list_any (λ j. nat_eq j k) is ≡ true → list_any (λ j. nat_eq j k) (i ∷ is) ≡ true
    later k i is e = or_right (nat_eq i k) (list_any (λ j. nat_eq j k) is) e

-- lists with no common bit share no place
pub no_share : (is js : List ℕ) → bit_and (bits_of is) (bits_of js) ≡ 0 → share is js ≡ false
no_share is js e = no_place (bits_of is) is js (λ i. has_bit 0 i is) e
