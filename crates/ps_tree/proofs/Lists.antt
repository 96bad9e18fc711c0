-- What holds at each place of a list, and of what is picked of places.
use Rattle.std.proofs.Common.{ℕ, zero, suc, ◌+◌, ◌<◌, ◌≤◌, Bool, true, false, cond, List, [], ◌∷◌, All, filter, arith}
use Rattle.std.specs.Prelude.{slice_index_or}
use Rattle.std.specs.List.{range_with_len}
use Rattle.std.proofs.lemmas.List.Elements.{All-nil, All-cons}

-- what holds of each element holds at a place that there is
pub at_place : {X : Type 0} (P : X → Type 0) (xs : List X) (d : X) → P d → All P xs → (i : ℕ) → P (slice_index_or xs i d)
at_place P [] d h all zero = h
at_place P [] d h all (suc i) = h
at_place P (x ∷ xs) d h all zero = all 0 d (omega arith)
at_place P (x ∷ xs) d h all (suc i) = at_place P xs d h (λ k e below. all (suc k) e (omega (arith, below))) i

-- places that are picked are below what bounds all of them
pub picked_below : (p : ℕ → Bool) (a n b : ℕ) → a + n ≤ b → All (λ i. i < b) (filter p (range_with_len a n))
picked_below p a zero b h = All-nil (λ i. i < b)
picked_below p a (suc n) b h =
    let rest = picked_below p (a + 1) n b (omega (arith, h)) in
    let here : a < b = omega (arith, h) in
    elim (p a) as (λ (c : Bool). All (λ i. i < b) (cond c (a ∷ filter p (range_with_len (a + 1) n)) (filter p (range_with_len (a + 1) n)))) [
      | true ↦ All-cons (λ i. i < b) a (filter p (range_with_len (a + 1) n)) here rest
      | false ↦ rest
    ]
