-- Keys and entries that rise, with some left out.
use Rattle.std.proofs.Common.{◌≡◌, Bool, true, false, not, cond, List, [], ◌∷◌, Some, None, filter, refl, ap, ◌∙◌}
use Rattle.std.specs.Cmp.{IsTotalOrder}
use Rattle.std.specs.Ordering.{is_eq, match_ordering}
use Rattle.std.specs.declared.cmp.Ordering.{Ordering}
use Rattle.std.specs.declared.cmp.Ordering.TheVariants.{Less, Equal, Greater}
use Rattle.std.specs.List.{AllByRecursion}
use Rattle.std.specs.List.Sorted.{IsStrictlySortedBy}
use Rattle.std.specs.Map.{lookup, keys_of, remove_entry}
use Rattle.std.specs.Set.{remove_key}
use Rattle.std.specs.BTreeMap.{insert_entry, is_at}
use Rattle.std.proofs.lemmas.List.Kept.{IsStrictlySortedBy-filter}

module _ {K X : Type 0} where
  -- the keys of the entries that a test of the key keeps
  pub keys-filter : (p : K → Bool) (es : List (K × X)) → keys_of (filter (λ e. p e.0) es) ≡ filter p (keys_of es)
  keys-filter p [] = refl
  keys-filter p (e ∷ es) =
      elim (p e.0) as (λ b. keys_of (cond b (e ∷ filter (λ e. p e.0) es) (filter (λ e. p e.0) es)) ≡ cond b (e.0 ∷ filter p (keys_of es)) (filter p (keys_of es))) [
        | true ↦ ap (λ l. e.0 ∷ l) (keys-filter p es)
        | false ↦ keys-filter p es
      ]

  -- they rise where all keys do
  pub sorted-filter : (R : K → K → Ordering) (p : K → Bool) (es : List (K × X)) → IsStrictlySortedBy R (keys_of es) → IsStrictlySortedBy R (keys_of (filter (λ e. p e.0) es))
  sorted-filter R p es s = rw (keys-filter p es) (IsStrictlySortedBy-filter R p (keys_of es) s)

module _ {K : Type 0} {R : K → K → Ordering} (o : IsTotalOrder R) where
  all_keys_stay : (q x : K) (ks : List K) → R q x ≡ Equal → AllByRecursion (λ y. R x y ≡ Less) ks → filter (λ k. not (is_eq (R q k))) ks ≡ ks
  all_keys_stay q x [] s a = refl
  all_keys_stay q x (k ∷ ks) s a =
      let less : R q k ≡ Less = o.congr q x k s ∙ a.0 in rw less (ap (λ l. k ∷ l) (all_keys_stay q x ks s a.1))

  key_at : (q x : K) (ks : List K) (r : Ordering) → R q x ≡ r → AllByRecursion (λ y. R x y ≡ Less) ks → remove_key (is_at (R q)) ks ≡ filter (λ k. not (is_eq (R q k))) ks → cond (is_eq r) ks (x ∷ remove_key (is_at (R q)) ks) ≡ cond (not (is_eq r)) (x ∷ filter (λ k. not (is_eq (R q k))) ks) (filter (λ k. not (is_eq (R q k))) ks)
  key_at q x ks Less e a h = ap (λ l. x ∷ l) h
  key_at q x ks Equal e a h = rw (all_keys_stay q x ks e a)
  key_at q x ks Greater e a h = ap (λ l. x ∷ l) h

  -- in a list that rises a key stands once, so that its removal is a filter
  pub remove_key-filter : (q : K) (ks : List K) → IsStrictlySortedBy R ks → remove_key (is_at (R q)) ks ≡ filter (λ k. not (is_eq (R q k))) ks
  unfolding IsStrictlySortedBy
  remove_key-filter q [] s = refl
  remove_key-filter q (x ∷ ks) s = key_at q x ks (R q x) refl s.0 (remove_key-filter q ks s.1)

module _ {K X : Type 0} {R : K → K → Ordering} (o : IsTotalOrder R) where
  all_entries_stay : (q x : K) (es : List (K × X)) → R q x ≡ Equal → AllByRecursion (λ y. R x y ≡ Less) (keys_of es) → filter (λ e. not (is_eq (R q e.0))) es ≡ es
  all_entries_stay q x [] s a = refl
  all_entries_stay q x (e ∷ es) s a =
      let less : R q e.0 ≡ Less = o.congr q x e.0 s ∙ a.0 in rw less (ap (λ l. e ∷ l) (all_entries_stay q x es s a.1))

  entry_at : (q : K) (e : K × X) (es : List (K × X)) (r : Ordering) → R q e.0 ≡ r → AllByRecursion (λ y. R e.0 y ≡ Less) (keys_of es) → remove_entry (is_at (R q)) es ≡ filter (λ e. not (is_eq (R q e.0))) es → cond (is_eq r) es (e ∷ remove_entry (is_at (R q)) es) ≡ cond (not (is_eq r)) (e ∷ filter (λ e. not (is_eq (R q e.0))) es) (filter (λ e. not (is_eq (R q e.0))) es)
  entry_at q e es Less s a h = ap (λ l. e ∷ l) h
  entry_at q e es Equal s a h = rw (all_entries_stay q e.0 es s a)
  entry_at q e es Greater s a h = ap (λ l. e ∷ l) h

  -- the same of entries
  pub remove_entry-filter : (q : K) (es : List (K × X)) → IsStrictlySortedBy R (keys_of es) → remove_entry (is_at (R q)) es ≡ filter (λ e. not (is_eq (R q e.0))) es
  unfolding IsStrictlySortedBy
  remove_entry-filter q [] s = refl
  remove_entry-filter q (e ∷ es) s = entry_at q e es (R q e.0) refl s.0 (remove_entry-filter q es s.1)

  none_above : (q x : K) (es : List (K × X)) → R q x ≡ Less → AllByRecursion (λ y. R x y ≡ Less) (keys_of es) → lookup (is_at (R q)) es ≡ None
  none_above q x [] s a = refl
  none_above q x (e ∷ es) s a =
      let less : R q e.0 ≡ Less = o.trans q x e.0 s a.0 in rw less (none_above q x es s a.1)

  same_at : (k : K) (v : X) (e : K × X) (es : List (K × X)) (r : Ordering) → R k e.0 ≡ r → AllByRecursion (λ y. R e.0 y ≡ Less) (keys_of es) → (lookup (is_at (R k)) es ≡ Some v → insert_entry R es k v ≡ es) → cond (is_eq r) (Some e.1) (lookup (is_at (R k)) es) ≡ Some v → match_ordering r ((k, v) ∷ e ∷ es) ((e.0, v) ∷ es) (e ∷ insert_entry R es k v) ≡ e ∷ es
  same_at k v e es Less s a h f = let none = none_above k e.0 es s a in absurd (cc)
  same_at k v e es Equal s a h f = let same : v ≡ e.1 = cc in λ i. (e.0, same i) ∷ es
  same_at k v e es Greater s a h f = ap (λ l. e ∷ l) (h f)

  -- to put in an entry that is there changes nothing
  pub insert_entry-same : (k : K) (v : X) (es : List (K × X)) → IsStrictlySortedBy R (keys_of es) → lookup (is_at (R k)) es ≡ Some v → insert_entry R es k v ≡ es
  unfolding IsStrictlySortedBy
  insert_entry-same k v [] s f = absurd (cc)
  insert_entry-same k v (e ∷ es) s f = same_at k v e es (R k e.0) refl s.0 (insert_entry-same k v es s.1) f
