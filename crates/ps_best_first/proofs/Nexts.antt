-- Which node is expanded next.
use Rattle.std.proofs.Common.{◌≡◌, ◌⊎◌, inl, inr, ℕ, zero, suc, ◌<◌, ◌≤◌, nat_le, nat_lt, Bool, true, false, cond, not, ◌&&◌, List, [], ◌∷◌, Option, Some, None, length, slice_get, slice_index_or, slice_set, refl, ap, sym, subst, ◌∙◌, arith}
use Rattle.std.proofs.lemmas.Bool.{and_from, cond-false, cond-true, le-leb}
use Rattle.std.proofs.lemmas.Bool.Decides.{nat_tests}
use Rattle.ps_world.specs.declared.known.Knowledge.{Knowledge}
use Rattle.ps_domain.proofs.Members.{Has}
use Rattle.ps_ground.specs.Moves.{Node}
use Rattle.ps_greedy.specs.Greedy.{Spot, can_expand, done, next, next_before}
use Rattle.ps_greedy.proofs.Spots.{next_is}
use Rattle.ps_best_first.specs.Leaves.{IsFirst, NoneOpen, is_open, shut}
use Rattle.ps_best_first.specs.Search.{AreDeep, spot_of, spots_of}
use Rattle.ps_best_first.specs.declared.leaves.Leaf.{Leaf}

no_item : {A : Type 0} (i : ℕ) (x : A) → slice_get [] i ≡ Some x → ⊥
no_item zero x e = absurd (cc)
no_item (suc i) x e = absurd (cc)

-- ---- the one before the others

here_at : (x : Spot) (xs : List Spot) (o : Option (Spot × List Spot)) → can_expand x ≡ true → ((u : Spot × List Spot) → o ≡ Some u → nat_le (length x.missing) (length u.0.missing) ≡ true) → next_before x xs o ≡ Some (x, done x ∷ xs)
here_at x xs None may h = cond-true (can_expand x) (Some (x, done x ∷ xs)) None may
here_at x xs (Some u) may h =
    let few = nat_le (length x.missing) (length u.0.missing) in
    cond-true (can_expand x && few) (Some (x, done x ∷ xs)) (Some (u.0, x ∷ u.1)) (and_from (can_expand x) few may (h u refl))

later_at : (x : Spot) (xs : List Spot) (u : Spot × List Spot) → (can_expand x && nat_le (length x.missing) (length u.0.missing)) ≡ false → next_before x xs (Some u) ≡ Some (u.0, x ∷ u.1)
later_at x xs u e = cond-false (can_expand x && nat_le (length x.missing) (length u.0.missing)) (Some (x, done x ∷ xs)) (Some (u.0, x ∷ u.1)) e

pub more_missing : (a b : ℕ) → b < a → nat_le a b ≡ false
more_missing a b h = grind (arith, nat_tests, h)

module _ (k : Knowledge) where
  open_alike : (n : Node) (l : Leaf) → l.depth ≡ length n.path → can_expand (spot_of k n l) ≡ is_open l
  open_alike n l e = ap (λ depth. not l.expanded && nat_lt depth 256) (sym e)

  -- a spot is that of a node with what is kept of it
  spot_leaf : (ns : List Node) (ls : List Leaf) (x : Spot) → AreDeep ns ls → Has (spots_of k ns ls) x → (j : ℕ) × (n : Node) × (l : Leaf) × (slice_get ls j ≡ Some l) × (l.depth ≡ length n.path) × (spot_of k n l ≡ x)
  spot_leaf [] ls x deep a = absurd a
  spot_leaf (n ∷ ns) [] x deep a = absurd a
  spot_leaf (n ∷ ns) (l ∷ ls) x deep (inl e) = (0, n, l, refl, deep.0, e)
  spot_leaf (n ∷ ns) (l ∷ ls) x deep (inr a) = let w = spot_leaf ns ls x deep.1 a in (suc w.0, w.1, w.2, w.3, w.4, w.5)

  first_later : (m : Leaf) (ms : List Leaf) (q : ℕ) (l : Leaf) → IsFirst (m ∷ ms) (suc q) l → IsFirst ms q l
  first_later m ms q l f = record {
    there = f.there;
    may = f.may;
    fewest = λ j x e opens. elim (f.fewest (suc j) x e opens) [
      | inl fewer ↦ inl fewer
      | inr tied ↦ inr (tied.0, let t = tied.1 in omega (arith, t))
    ];
  }

  -- no later spot misses fewer marks than the first
  fewer_later : (m : Leaf) (ns : List Node) (ms : List Leaf) (u : Spot × List Spot) → AreDeep ns ms → IsFirst (m ∷ ms) 0 m → next (spots_of k ns ms) ≡ Some u → nat_le (length m.missing) (length u.0.missing) ≡ true
  fewer_later m ns ms u deep f e =
      let s = next_is (spots_of k ns ms) u e in
      let w = spot_leaf ns ms u.0 deep s.among in
      let opens : is_open w.2 ≡ true = sym (open_alike w.1 w.2 w.4) ∙ ap can_expand w.5 ∙ s.may in
      let same : length w.2.missing ≡ length u.0.missing = ap (λ (x : Spot). length x.missing) w.5 in
      elim (f.fewest (suc w.0) w.2 w.3 opens) [
        | inl fewer ↦ le-leb (length m.missing) (length u.0.missing) (omega (arith, fewer, same))
        | inr tied ↦ (let t = tied.0 in le-leb (length m.missing) (length u.0.missing) (omega (arith, t, same)))
      ]

  -- the first misses more marks than a later one that is first
  more_before : (n : Node) (m : Leaf) (ms : List Leaf) (q : ℕ) (l : Leaf) → m.depth ≡ length n.path → IsFirst (m ∷ ms) (suc q) l → (b : Bool) → can_expand (spot_of k n m) ≡ b → (b && nat_le (length m.missing) (length l.missing)) ≡ false
  more_before n m ms q l deep f false e = refl
  more_before n m ms q l deep f true e =
      elim (f.fewest 0 m refl (sym (open_alike n m deep) ∙ e)) [
        | inl fewer ↦ more_missing (length m.missing) (length l.missing) fewer
        | inr tied ↦ (let t = tied.1 in absurd (omega (arith, t)))
      ]

  first_at : (n : Node) (ns : List Node) (m : Leaf) (ms : List Leaf) (l : Leaf) → AreDeep (n ∷ ns) (m ∷ ms) → m ≡ l → IsFirst (m ∷ ms) 0 l → next (spots_of k (n ∷ ns) (m ∷ ms)) ≡ Some (spot_of k n l, spots_of k (n ∷ ns) (shut l ∷ ms))
  first_at n ns m ms l deep same f =
      let P : Leaf → Type 0 = λ x. IsFirst (m ∷ ms) 0 x in
      let Q : Leaf → Type 0 = λ x. next (spots_of k (n ∷ ns) (m ∷ ms)) ≡ Some (spot_of k n x, spots_of k (n ∷ ns) (shut x ∷ ms)) in
      let g = subst P (sym same) f in
      subst Q same (here_at (spot_of k n m) (spots_of k ns ms) (next (spots_of k ns ms)) (open_alike n m deep.0 ∙ g.may) (λ u e. fewer_later m ns ms u deep.1 g e))

  -- the first with the fewest missing marks is next
  pub first_next : (ns : List Node) (ls : List Leaf) (i : ℕ) (l : Leaf) (d : Node) → AreDeep ns ls → IsFirst ls i l → next (spots_of k ns ls) ≡ Some (spot_of k (slice_index_or ns i d) l, spots_of k ns (slice_set ls i (shut l)))
  first_next [] [] i l d deep f = absurd (no_item i l f.there)
  first_next [] (m ∷ ms) i l d deep f = absurd deep
  first_next (n ∷ ns) [] i l d deep f = absurd deep
  first_next (n ∷ ns) (m ∷ ms) zero l d deep f = let same : m ≡ l = (let e = f.there in cc) in first_at n ns m ms l deep same f
  first_next (n ∷ ns) (m ∷ ms) (suc q) l d deep f =
      let x = spot_of k n m in
      let xs = spots_of k ns ms in
      let u : Spot × List Spot = (spot_of k (slice_index_or ns q d) l, spots_of k ns (slice_set ms q (shut l))) in
      ap (next_before x xs) (first_next ns ms q l d deep.1 (first_later m ms q l f))
      ∙ later_at x xs u (more_before n m ms q l deep.0 f (can_expand x) refl)

  -- where none can be expanded, none is next
  pub none_next : (ns : List Node) (ls : List Leaf) → AreDeep ns ls → NoneOpen ls → next (spots_of k ns ls) ≡ None
  none_next [] ls deep none = refl
  none_next (n ∷ ns) [] deep none = refl
  none_next (n ∷ ns) (m ∷ ms) deep none =
      let x = spot_of k n m in
      let xs = spots_of k ns ms in
      ap (next_before x xs) (none_next ns ms deep.1 (λ i l e. none (suc i) l e))
      ∙ cond-false (can_expand x) (Some (x, done x ∷ xs)) None (open_alike n m deep.0 ∙ none 0 m refl)

-- ---- the lists of leaves

-- a node that is expanded is as deep as before
pub shut_deep : (ns : List Node) (ls : List Leaf) (i : ℕ) (l : Leaf) → slice_get ls i ≡ Some l → AreDeep ns ls → AreDeep ns (slice_set ls i (shut l))
shut_deep ns [] i l e deep = absurd (no_item i l e)
shut_deep [] (m ∷ ms) i l e deep = absurd deep
shut_deep (n ∷ ns) (m ∷ ms) zero l e deep =
    let same : m ≡ l = cc in
    (ap (λ (x : Leaf). x.depth) (sym same) ∙ deep.0, deep.1)
shut_deep (n ∷ ns) (m ∷ ms) (suc i) l e deep = (deep.0, shut_deep ns ms i l e deep.1)

pub deep_length : (ns : List Node) (ls : List Leaf) → AreDeep ns ls → length ls ≡ length ns
deep_length [] [] deep = refl
deep_length [] (l ∷ ls) deep = absurd deep
deep_length (n ∷ ns) [] deep = absurd deep
deep_length (n ∷ ns) (l ∷ ls) deep = ap suc (deep_length ns ls deep.1)

-- the depth of what stands at a place
pub deep_at : (ns : List Node) (ls : List Leaf) (i : ℕ) (l : Leaf) (d : Node) → slice_get ls i ≡ Some l → AreDeep ns ls → l.depth ≡ length (slice_index_or ns i d).path
deep_at ns [] i l d e deep = absurd (no_item i l e)
deep_at [] (m ∷ ms) i l d e deep = absurd deep
deep_at (n ∷ ns) (m ∷ ms) zero l d e deep =
    let same : m ≡ l = cc in
    ap (λ (x : Leaf). x.depth) (sym same) ∙ deep.0
deep_at (n ∷ ns) (m ∷ ms) (suc i) l d e deep = deep_at ns ms i l d e deep.1
