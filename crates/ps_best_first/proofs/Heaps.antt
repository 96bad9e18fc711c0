-- Heaps of the nodes that can be expanded.
use Rattle.std.proofs.Common.{◌≡◌, ◌⊎◌, inl, inr, ℕ, zero, suc, ◌<◌, ◌≤◌, Bool, true, false, List, [], ◌∷◌, ◌++◌, Some, All, length, slice_get, slice_set, refl, sym, ap, subst, ◌∙◌, arith}
use Rattle.std.specs.List.{Contains}
use Rattle.std.specs.BTreeMap.Range.{IsLtBy}
use Rattle.std.specs.BTreeSet.{insert_key}
use Rattle.std.specs.FinMap.{nat_cmp-IsAntisymmetric}
use Rattle.std.specs.Ordering.{match_ordering, nat_cmp, ordering_then}
use Rattle.std.specs.declared.cmp.Ordering.{Ordering}
use Rattle.std.specs.declared.cmp.Ordering.TheVariants.{Less, Equal, Greater}
use Rattle.std.proofs.lemmas.Bool.{cases_eq}
use Rattle.std.proofs.lemmas.Cmp.{ranked}
use Rattle.std.proofs.lemmas.List.Elements.{All-head, All-tail}
use Rattle.std.proofs.lemmas.Map.Lookups.{exact_pairs}
use Rattle.std.proofs.lemmas.Option.{slice_get_within}
use Rattle.ps_domain.proofs.Members.{Contains_from_has, Has, has_from_Contains}
use Rattle.ps_marks.proofs.Members.{no_both}
use Rattle.ps_best_first.specs.Leaves.{IsFirst, IsHeap, is_open, shut}
use Rattle.ps_best_first.specs.declared.leaves.Leaf.{Leaf}

-- ---- the order of a heap

-- by how many marks are missing, then by the place
abbrev pub key_cmp : ℕ × ℕ → ℕ × ℕ → Ordering
key_cmp a b = ordering_then (nat_cmp a.0 b.0) (nat_cmp a.1 b.1)

below_at : (a b : ℕ × ℕ) (r s : Ordering) → r ≡ nat_cmp a.0 b.0 → s ≡ nat_cmp a.1 b.1 → ordering_then r s ≡ Less → (a.0 < b.0) ⊎ ((a.0 ≡ b.0) × (a.1 < b.1))
below_at a b Less s e f l = inl (ranked a.0 b.0 Less e)
below_at a b Equal Less e f l = inr (ranked a.0 b.0 Equal e, ranked a.1 b.1 Less f)
below_at a b Equal Equal e f l = absurd (cc)
below_at a b Equal Greater e f l = absurd (cc)
below_at a b Greater s e f l = absurd (cc)

below : (a b : ℕ × ℕ) → IsLtBy key_cmp a b → (a.0 < b.0) ⊎ ((a.0 ≡ b.0) × (a.1 < b.1))
below a b l = below_at a b (nat_cmp a.0 b.0) (nat_cmp a.1 b.1) refl refl l

insert_at : (k x y : ℕ × ℕ) (ys : List (ℕ × ℕ)) (r : Ordering) → (Has (insert_key key_cmp ys k) x → (k ≡ x) ⊎ Has ys x) → Has (match_ordering r (k ∷ y ∷ ys) (y ∷ ys) (y ∷ insert_key key_cmp ys k)) x → (k ≡ x) ⊎ Has (y ∷ ys) x
insert_at k x y ys Less h a = a
insert_at k x y ys Equal h a = inr a
insert_at k x y ys Greater h (inl e) = inr (inl e)
insert_at k x y ys Greater h (inr a) = elim (h a) [ inl e ↦ inl e | inr b ↦ inr (inr b) ]

-- what is there after a key is put in
inserted : (k x : ℕ × ℕ) (ks : List (ℕ × ℕ)) → Has (insert_key key_cmp ks k) x → (k ≡ x) ⊎ Has ks x
inserted k x [] a = a
inserted k x (y ∷ ys) a = insert_at k x y ys (key_cmp k y) (inserted k x ys) a

old_at : (k x y : ℕ × ℕ) (ys : List (ℕ × ℕ)) (r : Ordering) → (Has ys x → Has (insert_key key_cmp ys k) x) → Has (y ∷ ys) x → Has (match_ordering r (k ∷ y ∷ ys) (y ∷ ys) (y ∷ insert_key key_cmp ys k)) x
old_at k x y ys Less h a = inr a
old_at k x y ys Equal h a = a
old_at k x y ys Greater h (inl e) = inl e
old_at k x y ys Greater h (inr a) = inr (h a)

still_there : (k x : ℕ × ℕ) (ks : List (ℕ × ℕ)) → Has ks x → Has (insert_key key_cmp ks k) x
still_there k x [] a = absurd a
still_there k x (y ∷ ys) a = old_at k x y ys (key_cmp k y) (still_there k x ys) a

new_at : (k y : ℕ × ℕ) (ys : List (ℕ × ℕ)) (r : Ordering) → key_cmp k y ≡ r → Has (insert_key key_cmp ys k) k → Has (match_ordering r (k ∷ y ∷ ys) (y ∷ ys) (y ∷ insert_key key_cmp ys k)) k
new_at k y ys Less e h = inl refl
new_at k y ys Equal e h = inl (sym (exact_pairs nat_cmp nat_cmp nat_cmp-IsAntisymmetric nat_cmp-IsAntisymmetric k y e))
new_at k y ys Greater e h = inr h

now_there : (k : ℕ × ℕ) (ks : List (ℕ × ℕ)) → Has (insert_key key_cmp ks k) k
now_there k [] = inl refl
now_there k (y ∷ ys) = new_at k y ys (key_cmp k y) refl (now_there k ys)

all_there : (P : ℕ × ℕ → Type 0) (ks : List (ℕ × ℕ)) (k : ℕ × ℕ) → All P ks → Has ks k → P k
all_there P [] k h a = absurd a
all_there P (x ∷ ks) k h (inl e) = subst P e (All-head P x ks h)
all_there P (x ∷ ks) k h (inr a) = all_there P ks k (All-tail P x ks h) a

-- ---- a node more

module _ {A : Type 0} where
  pub before_or_last : (xs : List A) (x y : A) (i : ℕ) → slice_get (xs ++ x ∷ []) i ≡ Some y → (slice_get xs i ≡ Some y) ⊎ ((i ≡ length xs) × (x ≡ y))
  before_or_last [] x y zero e = let same : x ≡ y = cc in inr (refl, same)
  before_or_last [] x y (suc i) e = absurd (cc)
  before_or_last (z ∷ xs) x y zero e = inl e
  before_or_last (z ∷ xs) x y (suc i) e = elim (before_or_last xs x y i e) [ inl a ↦ inl a | inr b ↦ inr (ap suc b.0, b.1) ]

  pub there_before : (xs : List A) (x y : A) (i : ℕ) → slice_get xs i ≡ Some y → slice_get (xs ++ x ∷ []) i ≡ Some y
  there_before [] x y zero e = absurd (cc)
  there_before [] x y (suc i) e = absurd (cc)
  there_before (z ∷ xs) x y zero e = e
  there_before (z ∷ xs) x y (suc i) e = there_before xs x y i e

  pub there_last : (xs : List A) (x : A) → slice_get (xs ++ x ∷ []) (length xs) ≡ Some x
  there_last [] x = refl
  there_last (z ∷ xs) x = there_last xs x

  pub set_here : (xs : List A) (i : ℕ) (x y : A) → slice_get xs i ≡ Some x → slice_get (slice_set xs i y) i ≡ Some y
  set_here [] zero x y e = absurd (cc)
  set_here [] (suc i) x y e = absurd (cc)
  set_here (z ∷ xs) zero x y e = refl
  set_here (z ∷ xs) (suc i) x y e = set_here xs i x y e

  pub set_other : (xs : List A) (i j : ℕ) (y : A) → (i ≡ j → ⊥) → slice_get (slice_set xs i y) j ≡ slice_get xs j
  set_other [] i j y h = refl
  set_other (z ∷ xs) zero zero y h = absurd (h refl)
  set_other (z ∷ xs) zero (suc j) y h = refl
  set_other (z ∷ xs) (suc i) zero y h = refl
  set_other (z ∷ xs) (suc i) (suc j) y h = set_other xs i j y (λ e. h (ap suc e))

some_same : {A : Type 0} {x y : A} → Some x ≡ Some y → x ≡ y
some_same e = cc

module _ (ls : List Leaf) (keys : List (ℕ × ℕ)) (heap : IsHeap ls keys) where
  still_only : (l : Leaf) (key : ℕ × ℕ) → Contains keys key → (m : Leaf) × (slice_get (ls ++ l ∷ []) key.1 ≡ Some m) × (is_open m ≡ true) × (length m.missing ≡ key.0)
  still_only l key c = let w = heap.only key c in (w.0, there_before ls l w.0 key.1 w.1, w.2, w.3)

  -- a node that can be expanded goes into the heap
  pub pushed_open : (l : Leaf) → is_open l ≡ true → IsHeap (ls ++ l ∷ []) (insert_key key_cmp keys (length l.missing, length ls))
  pushed_open l may =
      let new : ℕ × ℕ = (length l.missing, length ls) in
      record {
        has = λ i m e opens. elim (before_or_last ls l m i e) [
          | inl old ↦ Contains_from_has _ _ (still_there new (length m.missing, i) keys (has_from_Contains _ _ (heap.has i m old opens)))
          | inr last ↦ Contains_from_has _ _ (let P : ℕ × ℕ → Type 0 = λ k. Has (insert_key key_cmp keys new) k in subst P (λ j. (length (last.1 j).missing, sym last.0 j)) (now_there new keys))
        ];
        only = λ key c. elim (inserted new key keys (has_from_Contains _ _ c)) [
          | inl e ↦ (l, ap (λ (k : ℕ × ℕ). slice_get (ls ++ l ∷ []) k.1) (sym e) ∙ there_last ls l, may, ap (λ (k : ℕ × ℕ). k.0) e)
          | inr old ↦ still_only l key (Contains_from_has _ _ old)
        ];
      }

  -- another one doesn't
  pub pushed_shut : (l : Leaf) → is_open l ≡ false → IsHeap (ls ++ l ∷ []) keys
  pushed_shut l e = record {
    has = λ i m there opens. elim (before_or_last ls l m i there) [
      | inl old ↦ heap.has i m old opens
      | inr last ↦ absurd (no_both (is_open m) opens (ap is_open (sym last.1) ∙ e))
    ];
    only = still_only l;
  }

-- ---- the first one is taken

module _ (ls : List Leaf) (key : ℕ × ℕ) (rest : List (ℕ × ℕ)) (heap : IsHeap ls (key ∷ rest)) (above : All (IsLtBy key_cmp key) rest) where
  at_key : (l : Leaf) × (slice_get ls key.1 ≡ Some l) × (is_open l ≡ true) × (length l.missing ≡ key.0)
  at_key = heap.only key (Contains_from_has (key ∷ rest) key (inl refl))

  abbrev the_first : Leaf
  the_first = at_key.0

  pub is_within : key.1 < length ls
  is_within = slice_get_within ls key.1 the_first at_key.1

  -- it is the first with the fewest missing marks
  is_first : IsFirst ls key.1 the_first
  is_first = record {
    there = at_key.1;
    may = at_key.2;
    fewest = λ j m e opens. elim (has_from_Contains (key ∷ rest) _ (heap.has j m e opens)) [
      | inl same ↦ inr (at_key.3 ∙ ap (λ (k : ℕ × ℕ). k.0) same, let here : key.1 ≡ j = ap (λ (k : ℕ × ℕ). k.1) same in omega (arith, here))
      | inr later ↦ elim (below key (length m.missing, j) (all_there (IsLtBy key_cmp key) rest _ above later)) [
        | inl fewer ↦ inl (let many = at_key.3 in omega (arith, fewer, many))
        | inr tied ↦ inr (at_key.3 ∙ tied.0, let t = tied.1 in omega (arith, t))
      ]
    ];
  }

  shut_closed : (l m : Leaf) → shut l ≡ m → is_open m ≡ true → ⊥
  shut_closed l m e opens = no_both (is_open m) opens (ap is_open (sym e))

  -- two keys of one place are the same
  other_place : (k : ℕ × ℕ) (l : Leaf) → Has rest k → slice_get ls k.1 ≡ Some l → length l.missing ≡ k.0 → key.1 ≡ k.1 → ⊥
  other_place k l a e many same =
      let there : slice_get ls key.1 ≡ Some l = ap (slice_get ls) same ∙ e in
      let one : the_first ≡ l = some_same (sym at_key.1 ∙ there) in
      let first : length l.missing ≡ key.0 = ap (λ (m : Leaf). length m.missing) (sym one) ∙ at_key.3 in
      elim (below key k (all_there (IsLtBy key_cmp key) rest k above a)) [
        | inl fewer ↦ absurd (omega (arith, fewer, many, first))
        | inr tied ↦ (let t = tied.1 in absurd (omega (arith, t, same)))
      ]

  at_place : (i : ℕ) (m : Leaf) → slice_get (slice_set ls key.1 (shut the_first)) i ≡ Some m → is_open m ≡ true → (key.1 ≡ i) ⊎ (key.1 ≡ i → ⊥) → Contains rest (length m.missing, i)
  at_place i m e opens (inl same) =
      let here : slice_get (slice_set ls key.1 (shut the_first)) i ≡ Some (shut the_first) = ap (slice_get (slice_set ls key.1 (shut the_first))) (sym same) ∙ set_here ls key.1 the_first (shut the_first) at_key.1 in
      absurd (shut_closed the_first m (some_same (sym here ∙ e)) opens)
  at_place i m e opens (inr other) =
      elim (has_from_Contains (key ∷ rest) _ (heap.has i m (sym (set_other ls key.1 i (shut the_first) other) ∙ e) opens)) [
        | inl same ↦ absurd (other (ap (λ (k : ℕ × ℕ). k.1) same))
        | inr later ↦ Contains_from_has rest _ later
      ]

  -- the others are left
  left_heap : IsHeap (slice_set ls key.1 (shut the_first)) rest
  left_heap = record {
    has = λ i m e opens. at_place i m e opens (cases_eq key.1 i);
    only = λ k c.
        let a = has_from_Contains rest k c in
        let w = heap.only k (Contains_from_has (key ∷ rest) k (inr a)) in
        (w.0, set_other ls key.1 k.1 (shut the_first) (other_place k w.0 a w.1 w.3) ∙ w.1, w.2, w.3);
  }

  -- so it is with what stands there
  pub taken_first : (x : Leaf) → slice_get ls key.1 ≡ Some x → IsFirst ls key.1 x
  taken_first x e =
      let P : Leaf → Type 0 = IsFirst ls key.1 in
      subst P (some_same (sym at_key.1 ∙ e)) is_first

  pub taken_heap : (x : Leaf) → slice_get ls key.1 ≡ Some x → IsHeap (slice_set ls key.1 (shut x)) rest
  taken_heap x e =
      let P : Leaf → Type 0 = λ l. IsHeap (slice_set ls key.1 (shut l)) rest in
      subst P (some_same (sym at_key.1 ∙ e)) left_heap
