-- What stands in a list.
use Rattle.std.proofs.Common.{◌≡◌, ℕ, zero, suc, ◌≤◌, Bool, true, false, cond, Some, List, [], ◌∷◌, ◌++◌, filter, length, replicate, slice_get, slice_index_or, slice_set, ◌⊎◌, inl, inr, ⊎_elim, refl, sym, ap, arith}
use mathlib.Core.Option.{some, some-injective, some-ne-none}
use lib.ListN.{get_elem?}

pub get_first : {A : Type 0} (xs ys : List A) (i : ℕ) (x : A) → slice_get xs i ≡ Some x → slice_get (xs ++ ys) i ≡ Some x
get_first [] ys i x e = cc
get_first (y ∷ xs) ys zero x e = e
get_first (y ∷ xs) ys (suc i) x e = get_first xs ys i x e

pub get_last : {A : Type 0} (xs : List A) (x : A) → slice_get (xs ++ x ∷ []) (length xs) ≡ Some x
get_last [] x = refl
get_last (y ∷ xs) x = get_last xs x

pub index_replicate : {A : Type 0} (n i : ℕ) (x : A) → slice_index_or (replicate n x) i x ≡ x
index_replicate zero i x = refl
index_replicate (suc n) zero x = refl
index_replicate (suc n) (suc i) x = index_replicate n i x

pub filter_few : {A : Type 0} (p : A → Bool) (xs : List A) → length (filter p xs) ≤ length xs
filter_few p [] = omega arith
filter_few p (x ∷ xs) =
    elim (p x) as (λ b. length (cond b (x ∷ filter p xs) (filter p xs)) ≤ length (x ∷ xs)) [
      | true ↦ omega (arith, filter_few p xs)
      | false ↦ omega (arith, filter_few p xs)
    ]

-- ---- lists read by `get_elem?`

-- what is written over an element stands there
pub set_over : {A : Type 0} (l : List A) (i : ℕ) (a b : A) → get_elem? l i ≡ some a → get_elem? (slice_set l i b) i ≡ some b
set_over [] i a b e = absurd (some-ne-none a (sym e))
set_over (x ∷ xs) zero a b e = refl
set_over (x ∷ xs) (suc i) a b e = set_over xs i a b e

-- what stands in a list with one more element stands there already, or is the last
pub at_end_or_before : {A : Type 0} (l : List A) (a b : A) (j : ℕ) → get_elem? (l ++ a ∷ []) j ≡ some b → (get_elem? l j ≡ some b) ⊎ ((j ≡ length l) × (a ≡ b))
at_end_or_before [] a b zero e = inr (refl, some-injective a b e)
at_end_or_before [] a b (suc j) e = absurd (some-ne-none b (sym e))
at_end_or_before (x ∷ xs) a b zero e = inl e
at_end_or_before (x ∷ xs) a b (suc j) e = ⊎_elim inl (λ t. inr (ap suc t.0, t.1)) (at_end_or_before xs a b j e)

-- what stands in a list of one element is that
pub at_only : {A : Type 0} (a b : A) (j : ℕ) → get_elem? (a ∷ []) j ≡ some b → (j ≡ 0) × (a ≡ b)
at_only a b zero e = (refl, some-injective a b e)
at_only a b (suc j) e = absurd (some-ne-none b (sym e))
