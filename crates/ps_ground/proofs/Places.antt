-- What a binary search finds in a list of facts that rises.
use Rattle.std.proofs.Common.{◌≡◌, ℕ, zero, suc, ◌≤◌, ◌<◌, false, List, [], ◌∷◌, Some, length, get_or, refl, ap, sym, ◌∙◌, inl, inr, arith}
use Rattle.std.specs.Prelude.{slice_get}
use Rattle.std.specs.List.{AllByRecursion, list_any}
use Rattle.std.specs.List.Sorted.{IsNonDecreasingBy, IsPartitionPoint, IsStrictlySortedBy}
use Rattle.std.specs.Ordering.{is_eq, ordering_index, ordering_reverse}
use Rattle.std.specs.declared.cmp.Ordering.{Ordering}
use Rattle.std.specs.declared.cmp.Ordering.TheVariants.{Less, Equal, Greater}
use Rattle.std.proofs.lemmas.Bool.{cases_lt}
use Rattle.ps_world.specs.Facts.{fact_cmp}
use Rattle.ps_world.specs.Knowledge.{same_fact}
use Rattle.ps_world.specs.declared.facts.Fact.{Fact}
use Rattle.ps_action.proofs.Facts.{exact_facts}
use Rattle.ps_ground.specs.Orders.{facts_total}

rises_at : (f x y : Fact) (r : Ordering) → fact_cmp x f ≡ r → fact_cmp x y ≡ Less → ordering_index r ≤ ordering_index (fact_cmp y f)
rises_at f x y Less e h = omega arith
rises_at f x y Equal e h =
    let up : fact_cmp f y ≡ Less = sym (facts_total.congr x f y e) ∙ h in
    let down : fact_cmp y f ≡ Greater = facts_total.antisymm y f ∙ ap ordering_reverse up in
    rw down (omega arith)
rises_at f x y Greater e h =
    let low : fact_cmp f x ≡ Less = facts_total.antisymm f x ∙ ap ordering_reverse e in
    let up : fact_cmp f y ≡ Less = facts_total.trans f x y low h in
    let down : fact_cmp y f ≡ Greater = facts_total.antisymm y f ∙ ap ordering_reverse up in
    rw down (omega arith)

rises : (f x y : Fact) → fact_cmp x y ≡ Less → ordering_index (fact_cmp x f) ≤ ordering_index (fact_cmp y f)
rises f x y h = rises_at f x y (fact_cmp x f) refl h

all_at : (P : Fact → Type 0) (xs : List Fact) (j : ℕ) (d : Fact) → AllByRecursion P xs → j < length xs → P (get_or xs j d)
all_at P [] j d a h = absurd (omega arith)
all_at P (x ∷ xs) zero d a h = a.0
all_at P (x ∷ xs) (suc j) d a h =
    let less : j < length xs = omega arith in
    all_at P xs j d a.1 less

-- where facts rise, so do the answers of their order with one fact
pub answers_rise : (f : Fact) (xs : List Fact) → IsStrictlySortedBy fact_cmp xs → IsNonDecreasingBy (λ y. ordering_index (fact_cmp y f)) xs
unfolding IsStrictlySortedBy
answers_rise f [] s i j d h k = absurd (omega arith)
answers_rise f (x ∷ xs) s zero zero d h k = omega arith
answers_rise f (x ∷ xs) s zero (suc j) d h k =
    let less : j < length xs = omega arith in
    rises f x (get_or xs j d) (all_at (λ y. fact_cmp x y ≡ Less) xs j d s.0 less)
answers_rise f (x ∷ xs) s (suc i) zero d h k = absurd (omega arith)
answers_rise f (x ∷ xs) s (suc i) (suc j) d h k =
    let below : i ≤ j = omega arith in
    let less : j < length xs = omega arith in
    answers_rise f xs s.1 i j d below less

differs_at : (f y : Fact) (r : Ordering) → fact_cmp y f ≡ r → is_eq r ≡ false → same_fact f y ≡ false
differs_at f y Less e h = ap is_eq (facts_total.antisymm f y ∙ ap ordering_reverse e)
differs_at f y Equal e h = absurd (cc)
differs_at f y Greater e h = ap is_eq (facts_total.antisymm f y ∙ ap ordering_reverse e)

none_at : (f : Fact) (xs : List Fact) → ((k : ℕ) (d : Fact) → k < length xs → is_eq (fact_cmp (get_or xs k d) f) ≡ false) → list_any (same_fact f) xs ≡ false
none_at f [] h = refl
none_at f (x ∷ xs) h =
    let first = differs_at f x (fact_cmp x f) refl (h 0 x (omega arith)) in
    rw first (none_at f xs (λ k d less. h (suc k) d (omega arith)))

-- where each is below or above a fact, none is the same
pub none_there : (f : Fact) (xs : List Fact) (i : ℕ) → IsPartitionPoint (λ y. fact_cmp y f ≡ Less) (λ y. fact_cmp y f ≡ Greater) xs i → list_any (same_fact f) xs ≡ false
none_there f xs i h = none_at f xs (λ k d less. side k d less)
  where
    side : (k : ℕ) (d : Fact) → k < length xs → is_eq (fact_cmp (get_or xs k d) f) ≡ false
    side k d less =
        elim (cases_lt k i) [
          | inl low ↦ ap is_eq (h.0 k d (omega arith) low)
          | inr up ↦ ap is_eq (h.1 k d up less)
        ]

-- what is found is the fact itself
pub found_at : (f : Fact) (xs : List Fact) (i : ℕ) → i < length xs → ((d : Fact) → fact_cmp (get_or xs i d) f ≡ Equal) → slice_get xs i ≡ Some f
found_at f [] i h e = absurd (omega arith)
found_at f (x ∷ xs) zero h e = ap Some (exact_facts x f (e x))
found_at f (x ∷ xs) (suc i) h e =
    let less : i < length xs = omega arith in
    found_at f xs i less e
