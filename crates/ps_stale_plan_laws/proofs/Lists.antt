-- Places of lists at the seam of two, and lists whose numbers all differ.
use Rattle.std.proofs.Common.{◌≡◌, ℕ, zero, suc, ◌+◌, Bool, true, false, List, [], ◌∷◌, ◌++◌, length, take, filter, if◌then◌else◌, refl, arith, ap, ◌∙◌, inl, inr}
use Rattle.std.specs.List.{range_with_len}
use Rattle.std.proofs.Math.Seq.{take-append-add}
use Rattle.ps_progress_laws.proofs.Lists.{In, range_in}

-- ---- the seam of two lists

-- one more than all of the first list, and its first entry
pub take_seam : {A : Type 0} (xs : List A) (y : A) (ys : List A) → take (length xs + 1) (xs ++ y ∷ ys) ≡ xs ++ y ∷ []
take_seam xs y ys = take-append-add xs (y ∷ ys) 1

-- ---- numbers that all differ

-- the numbers of a list all differ
abbrev pub Differ : List ℕ → Type 0
Differ [] = Unit {0}
Differ (n ∷ ns) = (In n ns → ⊥) × Differ ns

-- what is kept of a list stands in it, and passes the test
pub in_kept : (test : ℕ → Bool) (n : ℕ) (ns : List ℕ) → In n (filter test ns) → In n ns × (test n ≡ true)
in_kept test n [] h = absurd h
in_kept test n (m ∷ ns) h = by_head (test m) refl (in_kept test n ns) h
  where
    by_head : (b : Bool) → test m ≡ b → (In n (filter test ns) → In n ns × (test n ≡ true)) → In n (if b then m ∷ filter test ns else filter test ns) → In n (m ∷ ns) × (test n ≡ true)
    by_head true t old (inl e) = (inl e, ap test e ∙ t)
    by_head true t old (inr g) = let w = old g in (inr w.0, w.1)
    by_head false t old g = let w = old g in (inr w.0, w.1)

-- the numbers of a range that pass a test all differ
pub range_differ : (test : ℕ → Bool) (start n : ℕ) → Differ (filter test (range_with_len start n))
range_differ test start zero = tt
range_differ test start (suc n) = by_head (test start) (range_differ test (start + 1) n)
  where
    by_head : (b : Bool) → Differ (filter test (range_with_len (start + 1) n)) → Differ (if b then start ∷ filter test (range_with_len (start + 1) n) else filter test (range_with_len (start + 1) n))
    by_head true d =
        (λ g. let l = (range_in start (start + 1) n (in_kept test start (range_with_len (start + 1) n) g).0).0 in absurd (omega (arith, l)), d)
    by_head false d = d

-- where none passes a test none is kept
pub none_kept : (test : ℕ → Bool) (ns : List ℕ) → ((n : ℕ) → In n ns → test n ≡ false) → filter test ns ≡ []
none_kept test [] h = refl
none_kept test (n ∷ ns) h = rw (h n (inl refl)) (none_kept test ns (λ m g. h m (inr g)))
