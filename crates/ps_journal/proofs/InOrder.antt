-- Lines that are sorted, with no two neighbours the same, are the lines in order.
use Rattle.std.proofs.Common.{◌≡◌, ℕ, Bool, true, false, cond, ◌||◌, List, [], ◌∷◌, fold, refl, ap, sym, ◌∙◌}
use Rattle.std.specs.List.{list_any, dedup, dedup_from}
use Rattle.std.specs.List.Sorted.{IsPermutation, IsSorted, IsStrictlySortedBy}
use Rattle.std.specs.BTreeSet.{insert_key}
use Rattle.std.specs.Cmp.Lexicographic.{slice_cmp, texts_ties}
use Rattle.std.specs.Ordering.{eq_by_cmp, nat_cmp}
use Rattle.std.proofs.lemmas.Cmp.{nat_list_cmp_total}
use Rattle.std.proofs.lemmas.List.Kept.{IsStrictlySortedBy-dedup}
use Rattle.std.proofs.lemmas.List.Sorted.{list_any-IsPermutation}
use Rattle.std.proofs.lemmas.Map.Lookups.{btree_set_from_contains, exact_bytes}
use Rattle.ps_world.specs.Lines.{same_text}
use Rattle.ps_world.proofs.Truths.{or_false, or_again}
use Rattle.ps_world.proofs.SameTexts.{same_text-is}
use Rattle.ps_action.proofs.Keys.{any-insert_key, sorted-insert_key}
use Rattle.ps_rules.specs.Journal.{in_order}
use Rattle.ps_problem.proofs.PutFacts.{or_swap}

-- whether a line is among others
abbrev has : List ℕ → List (List ℕ) → Bool
has line lines = list_any (eq_by_cmp (slice_cmp nat_cmp) line) lines

-- ---- with no two neighbours the same

has-neighbour : (q k x : List ℕ) (xs : List (List ℕ)) (b : Bool) → same_text x k ≡ b → has q (dedup_from same_text k xs) ≡ has q (k ∷ xs) → has q (dedup_from same_text x xs) ≡ has q (x ∷ xs) → has q (cond b (dedup_from same_text k xs) (k ∷ dedup_from same_text x xs)) ≡ has q (k ∷ x ∷ xs)
has-neighbour q k x xs true e h g = h ∙ rw (same_text-is x k e) (or_again (eq_by_cmp (slice_cmp nat_cmp) q k) (has q xs))
has-neighbour q k x xs false e h g = ap (λ b. eq_by_cmp (slice_cmp nat_cmp) q k || b) g

has-dedup_from : (q k : List ℕ) (xs : List (List ℕ)) → has q (dedup_from same_text k xs) ≡ has q (k ∷ xs)
has-dedup_from q k [] = refl
has-dedup_from q k (x ∷ xs) = has-neighbour q k x xs (same_text x k) refl (has-dedup_from q k xs) (has-dedup_from q x xs)

has-dedup : (q : List ℕ) (xs : List (List ℕ)) → has q (dedup same_text xs) ≡ has q xs
has-dedup q [] = refl
has-dedup q (x ∷ xs) = has-dedup_from q x xs

-- ---- in order

has-put : (q : List ℕ) (old xs : List (List ℕ)) → has q (fold (insert_key (slice_cmp nat_cmp)) old xs) ≡ (has q old || has q xs)
has-put q old [] = sym (or_false (has q old))
has-put q old (x ∷ xs) =
    has-put q (insert_key (slice_cmp nat_cmp) old x) xs ∙ ap (λ b. b || has q xs) (any-insert_key nat_list_cmp_total q x old)
    ∙ or_swap (eq_by_cmp (slice_cmp nat_cmp) q x) (has q old) (has q xs)

rises-put : (old xs : List (List ℕ)) → IsStrictlySortedBy (slice_cmp nat_cmp) old → IsStrictlySortedBy (slice_cmp nat_cmp) (fold (insert_key (slice_cmp nat_cmp)) old xs)
rises-put old [] s = s
rises-put old (x ∷ xs) s = rises-put (insert_key (slice_cmp nat_cmp) old x) xs (sorted-insert_key nat_list_cmp_total x old s)

rises-none : IsStrictlySortedBy (slice_cmp nat_cmp) []
unfolding IsStrictlySortedBy
rises-none = tt

-- sorted lines, each once, are in order
pub in_order-sorted : (lines sorted : List (List ℕ)) → IsPermutation lines sorted → IsSorted (slice_cmp nat_cmp) sorted → dedup same_text sorted ≡ in_order lines
in_order-sorted lines sorted p s =
    btree_set_from_contains nat_list_cmp_total (record { keys = dedup same_text sorted }) (record { keys = in_order lines })
    (IsStrictlySortedBy-dedup nat_list_cmp_total texts_ties sorted s) (rises-put [] lines rises-none)
    (λ q. has-dedup q sorted ∙ sym (list_any-IsPermutation (eq_by_cmp (slice_cmp nat_cmp) q) lines sorted p) ∙ sym (has-put q [] lines))
    exact_bytes
