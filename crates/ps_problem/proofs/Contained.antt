-- What a list contains, with an item more or fewer.
use Rattle.std.proofs.Common.{◌≡◌, ◌≢◌, ◌↔◌, ◌⊎◌, Bool, true, false, cond, List, [], ◌∷◌, ◌++◌, filter, inl, inr, refl, ap, sym, ◌∙◌, arith}
use Rattle.std.specs.List.{Contains, list_any}
use Rattle.std.specs.Cmp.{IsTotalOrder}
use Rattle.std.specs.Ordering.{eq_by_cmp}
use Rattle.std.specs.declared.cmp.Ordering.{Ordering}
use Rattle.std.specs.BTreeMap.{is_at}
use Rattle.std.specs.BTreeSet.{insert_key}
use Rattle.std.specs.Set.{remove_key}
use Rattle.std.proofs.lemmas.Cmp.{eq_by_cmp_equiv}
use Rattle.std.proofs.lemmas.Map.Lookups.{CmpEqualImpliesEq}
use Rattle.std.proofs.lemmas.Map.Views.{list_any-from_Contains, Contains-from_any, tells_apart}
use Rattle.std.proofs.lemmas.Bool.{or_right}
use Rattle.ps_world.specs.Knowledge.{same_fact}
use Rattle.ps_world.specs.declared.facts.Fact.{Fact}
use Rattle.ps_action.proofs.Facts.{facts_total, exact_facts}
use Rattle.ps_action.proofs.Keys.{any-insert_key}
use Rattle.ps_action.proofs.Contained.{contains_cases, contains_first, contains_later, or_cases}

module _ {K : Type 0} {R : K → K → Ordering} (o : IsTotalOrder R) (exact : CmpEqualImpliesEq R) where
  -- after one more key: the keys from before, and that one
  pub contains-insert_key : (xs : List K) (more x : K) → Contains (insert_key R xs more) x ↔ (Contains xs x ⊎ (x ≡ more))
  contains-insert_key xs more x =
      let laws = eq_by_cmp_equiv o in
      let after = any-insert_key o x more xs in (
        λ c. elim (or_cases (eq_by_cmp R x more) (list_any (eq_by_cmp R x) xs) (sym after ∙ list_any-from_Contains laws x _ c)) [
          | inl e ↦ inr (tells_apart exact x more e)
          | inr e ↦ inl (Contains-from_any (tells_apart exact) x xs e)
        ],
        λ w. Contains-from_any (tells_apart exact) x _ (after ∙ elim w [
          | inl c ↦ or_right _ _ (list_any-from_Contains laws x xs c)
          | inr e ↦ rw (e, laws.refl more) refl
        ]),
      )

  left_at : (q x y : K) (xs : List K) (b : Bool) → eq_by_cmp R q x ≡ b → (y ≢ q) → (Contains xs y → Contains (remove_key (is_at (R q)) xs) y) → (x ≡ y) ⊎ Contains xs y → Contains (cond b xs (x ∷ remove_key (is_at (R q)) xs)) y
  left_at q x y xs true s n h (inl e) = absurd (n (sym e ∙ sym (tells_apart exact q x s)))
  left_at q x y xs true s n h (inr c) = c
  left_at q x y xs false s n h (inl e) = (0, omega arith, e)
  left_at q x y xs false s n h (inr c) = contains_later x y (remove_key (is_at (R q)) xs) (h c)

  -- another key stays where one is removed
  pub contains-remove_key : (q y : K) (xs : List K) → (y ≢ q) → Contains xs y → Contains (remove_key (is_at (R q)) xs) y
  contains-remove_key q y [] n c = c
  contains-remove_key q y (x ∷ xs) n c = left_at q x y xs (eq_by_cmp R q x) refl n (contains-remove_key q y xs n) (contains_cases x y xs c)

filtered_at : {X : Type 0} (p q : X → Bool) (x : X) (xs : List X) (a b : Bool) → p x ≡ a → q x ≡ b → (p x ≡ true → q x ≡ true) → filter p (filter q xs) ≡ filter p xs → filter p (cond b (x ∷ filter q xs) (filter q xs)) ≡ cond a (x ∷ filter p xs) (filter p xs)
filtered_at p q x xs true true s t h e = rw s (ap (λ l. x ∷ l) e)
filtered_at p q x xs false true s t h e = rw s e
filtered_at p q x xs true false s t h e = let yes = h s in absurd (cc)
filtered_at p q x xs false false s t h e = e

-- a filter of a filter that keeps all that the first keeps
pub filter-filter : {X : Type 0} (p q : X → Bool) → ((x : X) → p x ≡ true → q x ≡ true) → (xs : List X) → filter p (filter q xs) ≡ filter p xs
filter-filter p q h [] = refl
filter-filter p q h (x ∷ xs) = filtered_at p q x xs (p x) (q x) refl refl (h x) (filter-filter p q h xs)

-- a filter that all pass
pub filter-all : {X : Type 0} (p : X → Bool) (xs : List X) → ((x : X) → Contains xs x → p x ≡ true) → filter p xs ≡ xs
filter-all p [] h = refl
filter-all p (x ∷ xs) h =
    let here = h x (contains_first x x xs refl) in rw here (ap (λ l. x ∷ l) (filter-all p xs (λ y c. h y (contains_later x y xs c))))

-- whether some item passes, with one more at the end
pub list_any-push : {X : Type 0} (p : X → Bool) (xs : List X) (x : X) → list_any p (xs ++ x ∷ []) ≡ true → (list_any p xs ≡ true) ⊎ (p x ≡ true)
list_any-push p [] x e = elim (or_cases (p x) false e) [ inl h ↦ inr h | inr h ↦ absurd (cc) ]
list_any-push p (y ∷ ys) x e =
    elim (or_cases (p y) (list_any p (ys ++ x ∷ [])) e) [
      | inl h ↦ inl (rw h refl)
      | inr h ↦ elim (list_any-push p ys x h) [ inl r ↦ inl (or_right (p y) (list_any p ys) r) | inr r ↦ inr r ]
    ]

pub is_known-Contains : (f : Fact) (fs : List Fact) → (list_any (same_fact f) fs ≡ true) ↔ Contains fs f
is_known-Contains f fs =
    (λ e. Contains-from_any (tells_apart exact_facts) f fs e, λ c. list_any-from_Contains (eq_by_cmp_equiv facts_total) f fs c)
