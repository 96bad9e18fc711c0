-- One more key in a list of keys that rise.
use Rattle.std.proofs.Common.{◌≡◌, Bool, true, false, cond, ◌||◌, List, [], ◌∷◌, Option, Some, refl, ap, ◌∙◌}
use Rattle.std.specs.Cmp.{IsTotalOrder}
use Rattle.std.specs.Ordering.{is_eq, eq_by_cmp, match_ordering, ordering_reverse}
use Rattle.std.specs.declared.cmp.Ordering.{Ordering}
use Rattle.std.specs.declared.cmp.Ordering.TheVariants.{Less, Equal, Greater}
use Rattle.std.specs.List.{AllByRecursion, list_any}
use Rattle.std.specs.List.Sorted.{IsStrictlySortedBy}
use Rattle.std.specs.Map.{lookup, keys_of}
use Rattle.std.specs.BTreeMap.{insert_entry}
use Rattle.std.specs.BTreeSet.{insert_key}
use Rattle.std.proofs.lemmas.Cmp.{alike_right}

module _ {K : Type 0} {R : K → K → Ordering} (o : IsTotalOrder R) where
  all-insert_key : (P : K → Type 0) (k : K) (ks : List K) → P k → AllByRecursion P ks → AllByRecursion P (insert_key R ks k)
  all-insert_key P k [] p a = (p, tt)
  all-insert_key P k (x ∷ xs) p a =
      elim (R k x) as (λ r. AllByRecursion P (match_ordering r (k ∷ x ∷ xs) (x ∷ xs) (x ∷ insert_key R xs k))) [
        | Less ↦ (p, a)
        | Equal ↦ a
        | Greater ↦ (a.0, all-insert_key P k xs p a.1)
      ]

  all-below : (k x : K) (ks : List K) → R k x ≡ Less → AllByRecursion (λ y. R x y ≡ Less) ks → AllByRecursion (λ y. R k y ≡ Less) ks
  all-below k x [] p a = tt
  all-below k x (y ∷ ys) p a = (o.trans k x y p a.0, all-below k x ys p a.1)

  sorted-at : (k x : K) (ks : List K) (r : Ordering) → R k x ≡ r → IsStrictlySortedBy R (x ∷ ks) → IsStrictlySortedBy R (insert_key R ks k) → IsStrictlySortedBy R (match_ordering r (k ∷ x ∷ ks) (x ∷ ks) (x ∷ insert_key R ks k))
  unfolding IsStrictlySortedBy
  sorted-at k x ks Less p s t = ((p, all-below k x ks p s.0), s)
  sorted-at k x ks Equal p s t = s
  sorted-at k x ks Greater p s t = (all-insert_key (λ y. R x y ≡ Less) k ks (o.antisymm x k ∙ ap ordering_reverse p) s.0, t)

  pub sorted-insert_key : (k : K) (ks : List K) → IsStrictlySortedBy R ks → IsStrictlySortedBy R (insert_key R ks k)
  unfolding IsStrictlySortedBy
  sorted-insert_key k [] s = (tt, tt)
  sorted-insert_key k (x ∷ xs) s = sorted-at k x xs (R k x) refl s (sorted-insert_key k xs s.1)

  or-same : (a b : Bool) → (a || b) ≡ (a || (a || b))
  or-same true b = refl
  or-same false b = refl

  or-swap : (a b c : Bool) → (a || (b || c)) ≡ (b || (a || c))
  or-swap true true c = refl
  or-swap true false c = refl
  or-swap false b c = refl

  any-at : (q k x : K) (ks : List K) (r : Ordering) → R k x ≡ r → list_any (eq_by_cmp R q) (insert_key R ks k) ≡ (eq_by_cmp R q k || list_any (eq_by_cmp R q) ks) → list_any (eq_by_cmp R q) (match_ordering r (k ∷ x ∷ ks) (x ∷ ks) (x ∷ insert_key R ks k)) ≡ (eq_by_cmp R q k || list_any (eq_by_cmp R q) (x ∷ ks))
  any-at q k x ks Less p h = refl
  any-at q k x ks Equal p h = rw (alike_right o k x q p) (or-same (eq_by_cmp R q x) (list_any (eq_by_cmp R q) ks))
  any-at q k x ks Greater p h = rw h (or-swap (eq_by_cmp R q x) (eq_by_cmp R q k) (list_any (eq_by_cmp R q) ks))

  -- a key is found afterwards where it is the new one, or was found before
  pub any-insert_key : (q k : K) (ks : List K) → list_any (eq_by_cmp R q) (insert_key R ks k) ≡ (eq_by_cmp R q k || list_any (eq_by_cmp R q) ks)
  any-insert_key q k [] = refl
  any-insert_key q k (x ∷ xs) = any-at q k x xs (R k x) refl (any-insert_key q k xs)

  -- a query that is at x is at no key above or below x
  apart : (q k x : K) → R k x ≡ Greater → (r : Ordering) → R q x ≡ r → is_eq r ≡ true → is_eq (R q k) ≡ false
  apart q k x p Less e t = cc
  apart q k x p Equal e t =
      let h : R q k ≡ Less = o.congr q x k e ∙ (o.antisymm x k ∙ ap ordering_reverse p) in
      rw h
  apart q k x p Greater e t = cc

module _ {K X : Type 0} {R : K → K → Ordering} (o : IsTotalOrder R) where
  keys-at : (k : K) (v : X) (e : K × X) (es : List (K × X)) (r : Ordering) → keys_of (insert_entry R es k v) ≡ insert_key R (keys_of es) k → keys_of (match_ordering r ((k, v) ∷ e ∷ es) ((e.0, v) ∷ es) (e ∷ insert_entry R es k v)) ≡ match_ordering r (k ∷ e.0 ∷ keys_of es) (e.0 ∷ keys_of es) (e.0 ∷ insert_key R (keys_of es) k)
  keys-at k v e es Less h = refl
  keys-at k v e es Equal h = refl
  keys-at k v e es Greater h = ap (λ l. e.0 ∷ l) h

  pub keys-insert_entry : (k : K) (v : X) (es : List (K × X)) → keys_of (insert_entry R es k v) ≡ insert_key R (keys_of es) k
  keys-insert_entry k v [] = refl
  keys-insert_entry k v (e ∷ es) = keys-at k v e es (R k e.0) (keys-insert_entry k v es)

  cond-same : (a : Bool) (x y z : Option X) → cond a x z ≡ cond a x (cond a y z)
  cond-same true x y z = refl
  cond-same false x y z = refl

  cond-swap : (a b : Bool) (x y z : Option X) → (a ≡ true → b ≡ false) → cond a x (cond b y z) ≡ cond b y (cond a x z)
  cond-swap true true x y z h = let e : true ≡ false = h refl in cc
  cond-swap true false x y z h = refl
  cond-swap false b x y z h = refl

  lookup-at : (q k : K) (v : X) (e : K × X) (es : List (K × X)) (r : Ordering) → R k e.0 ≡ r → lookup (eq_by_cmp R q) (insert_entry R es k v) ≡ cond (eq_by_cmp R q k) (Some v) (lookup (eq_by_cmp R q) es) → lookup (eq_by_cmp R q) (match_ordering r ((k, v) ∷ e ∷ es) ((e.0, v) ∷ es) (e ∷ insert_entry R es k v)) ≡ cond (eq_by_cmp R q k) (Some v) (lookup (eq_by_cmp R q) (e ∷ es))
  lookup-at q k v e es Less p h = refl
  lookup-at q k v e es Equal p h = rw (alike_right o k e.0 q p) (cond-same (eq_by_cmp R q e.0) (Some v) (Some e.1) (lookup (eq_by_cmp R q) es))
  lookup-at q k v e es Greater p h = rw h (cond-swap (eq_by_cmp R q e.0) (eq_by_cmp R q k) (Some e.1) (Some v) (lookup (eq_by_cmp R q) es) (apart o q k e.0 p (R q e.0) refl))

  -- the new key has the new value, and every other key the one from before
  pub lookup-insert_entry : (q k : K) (v : X) (es : List (K × X)) → lookup (eq_by_cmp R q) (insert_entry R es k v) ≡ cond (eq_by_cmp R q k) (Some v) (lookup (eq_by_cmp R q) es)
  lookup-insert_entry q k v [] = refl
  lookup-insert_entry q k v (e ∷ es) = lookup-at q k v e es (R k e.0) refl (lookup-insert_entry q k v es)
