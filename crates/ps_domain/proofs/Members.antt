-- What stands in a list.
use Rattle.std.proofs.Common.{◌≡◌, ◌⊎◌, inl, inr, ℕ, ◌<◌, zero, suc, Bool, true, false, cond, Some, find, List, [], ◌∷◌, ◌++◌, length, map, filter, get_or, refl, sym, ap, subst, ◌∙◌, arith}
use Rattle.std.specs.List.{AllByRecursion, AllZip, Contains, flat_map}

-- an item stands in the list, by recursion on the list
abbrev pub Has : {X : Type 0} → List X → X → Type 0
Has [] x = ⊥
Has (y ∷ ys) x = (y ≡ x) ⊎ Has ys x

module _ {X : Type 0} where
  has_at : (y x : X) (ys : List X) (k : ℕ) → k < length (y ∷ ys) → get_or (y ∷ ys) k x ≡ x → (Contains ys x → Has ys x) → Has (y ∷ ys) x
  has_at y x ys zero within e h = inl e
  has_at y x ys (suc k) within e h = inr (h (k, omega arith, e))

  pub has_from_Contains : (xs : List X) (x : X) → Contains xs x → Has xs x
  has_from_Contains [] x c = absurd (omega (arith, c.1))
  has_from_Contains (y ∷ ys) x c = has_at y x ys c.0 c.1 c.2 (has_from_Contains ys x)

  pub Contains_from_has : (xs : List X) (x : X) → Has xs x → Contains xs x
  Contains_from_has [] x h = absurd h
  Contains_from_has (y ∷ ys) x (inl e) = (0, omega arith, e)
  Contains_from_has (y ∷ ys) x (inr h) = let c = Contains_from_has ys x h in (suc c.0, omega (arith, c.1), c.2)

  -- what holds of each item holds of one that stands there
  pub has_all : (P : X → Type 0) (xs : List X) (x : X) → AllByRecursion P xs → Has xs x → P x
  has_all P [] x a h = absurd h
  has_all P (y ∷ ys) x a (inl e) = subst P e a.0
  has_all P (y ∷ ys) x a (inr h) = has_all P ys x a.1 h

  has_either : (xs ys : List X) (x : X) → Has (xs ++ ys) x → Has xs x ⊎ Has ys x
  has_either [] ys x h = inr h
  has_either (z ∷ zs) ys x (inl e) = inl (inl e)
  has_either (z ∷ zs) ys x (inr h) = elim (has_either zs ys x h) [ inl m ↦ inl (inr m) | inr m ↦ inr m ]

  has_first : (xs ys : List X) (x : X) → Has xs x → Has (xs ++ ys) x
  has_first [] ys x h = absurd h
  has_first (z ∷ zs) ys x (inl e) = inl e
  has_first (z ∷ zs) ys x (inr h) = inr (has_first zs ys x h)

  has_later : (xs ys : List X) (x : X) → Has ys x → Has (xs ++ ys) x
  has_later [] ys x h = h
  has_later (z ∷ zs) ys x h = inr (has_later zs ys x h)

  passed_at : (p : X → Bool) (z x : X) (zs : List X) (b : Bool) → p z ≡ b → (Has (filter p zs) x → Has zs x × (p x ≡ true)) → Has (cond b (z ∷ filter p zs) (filter p zs)) x → Has (z ∷ zs) x × (p x ≡ true)
  passed_at p z x zs true s rest (inl e) = (inl e, ap p (sym e) ∙ s)
  passed_at p z x zs true s rest (inr h) = let m = rest h in (inr m.0, m.1)
  passed_at p z x zs false s rest h = let m = rest h in (inr m.0, m.1)

  pub has_passed : (p : X → Bool) (xs : List X) (x : X) → Has (filter p xs) x → Has xs x × (p x ≡ true)
  has_passed p [] x h = absurd h
  has_passed p (z ∷ zs) x h = passed_at p z x zs (p z) refl (has_passed p zs x) h

  passes_at : (p : X → Bool) (z x : X) (zs : List X) (b : Bool) → p z ≡ b → p x ≡ true → (Has zs x → Has (filter p zs) x) → (z ≡ x) ⊎ Has zs x → Has (cond b (z ∷ filter p zs) (filter p zs)) x
  passes_at p z x zs true s t rest (inl e) = inl e
  passes_at p z x zs true s t rest (inr h) = inr (rest h)
  passes_at p z x zs false s t rest (inl e) = let same = ap p e in absurd (cc)
  passes_at p z x zs false s t rest (inr h) = rest h

  pub has_passes : (p : X → Bool) (xs : List X) (x : X) → p x ≡ true → Has xs x → Has (filter p xs) x
  has_passes p [] x t h = absurd h
  has_passes p (z ∷ zs) x t h = passes_at p z x zs (p z) refl t (has_passes p zs x t) h

  found_at : (p : X → Bool) (z x : X) (zs : List X) (b : Bool) → p z ≡ b → (find p zs ≡ Some x → Has zs x × (p x ≡ true)) → cond b (Some z) (find p zs) ≡ Some x → Has (z ∷ zs) x × (p x ≡ true)
  found_at p z x zs true s rest e = let same : z ≡ x = cc in (inl same, ap p (sym same) ∙ s)
  found_at p z x zs false s rest e = let m = rest e in (inr m.0, m.1)

  -- what is found stands there, and passes
  pub has_found : (p : X → Bool) (xs : List X) (x : X) → find p xs ≡ Some x → Has xs x × (p x ≡ true)
  has_found p [] x e = absurd (cc)
  has_found p (z ∷ zs) x e = found_at p z x zs (p z) refl (has_found p zs x) e

module _ {X Y : Type 0} where
  pub has_mapped : (f : X → Y) (xs : List X) (y : Y) → Has (map f xs) y → (x : X) × Has xs x × (f x ≡ y)
  has_mapped f [] y h = absurd h
  has_mapped f (z ∷ zs) y (inl e) = (z, inl refl, e)
  has_mapped f (z ∷ zs) y (inr h) = let m = has_mapped f zs y h in (m.0, inr m.1, m.2)

  pub has_image : (f : X → Y) (xs : List X) (x : X) → Has xs x → Has (map f xs) (f x)
  has_image f [] x h = absurd h
  has_image f (z ∷ zs) x (inl e) = inl (ap f e)
  has_image f (z ∷ zs) x (inr h) = inr (has_image f zs x h)

  pub has_piece : (F : X → List Y) (xs : List X) (y : Y) → Has (flat_map F xs) y → (x : X) × Has xs x × Has (F x) y
  has_piece F [] y h = absurd h
  has_piece F (z ∷ zs) y h =
      elim (has_either (F z) (flat_map F zs) y h) [
        | inl m ↦ (z, inl refl, m)
        | inr m ↦ (let p = has_piece F zs y m in (p.0, inr p.1, p.2))
      ]

  pub has_in_piece : (F : X → List Y) (xs : List X) (x : X) (y : Y) → Has xs x → Has (F x) y → Has (flat_map F xs) y
  has_in_piece F [] x y h m = absurd h
  has_in_piece F (z ∷ zs) x y (inl e) m = has_first (F z) (flat_map F zs) y (subst (λ (w : X). Has (F w) y) (sym e) m)
  has_in_piece F (z ∷ zs) x y (inr h) m = has_later (F z) (flat_map F zs) y (has_in_piece F zs x y h m)

  -- where one fact of each two gives another, so it does of two lists
  pub zip_weaker : {Z : Type 0} (R : X → Z → Type 0) (S : Y → Z → Type 0) (f : X → Y) → ((x : X) (z : Z) → R x z → S (f x) z) → (xs : List X) (zs : List Z) → AllZip R xs zs → AllZip S (map f xs) zs
  zip_weaker R S f h [] [] a = tt
  zip_weaker R S f h [] (z ∷ zs) a = absurd a
  zip_weaker R S f h (x ∷ xs) [] a = absurd a
  zip_weaker R S f h (x ∷ xs) (z ∷ zs) a = (h x z a.0, zip_weaker R S f h xs zs a.1)

  pub zip_back : {Z : Type 0} (R : X → Z → Type 0) (S : Y → Z → Type 0) (f : X → Y) → ((x : X) (z : Z) → S (f x) z → R x z) → (xs : List X) (zs : List Z) → AllZip S (map f xs) zs → AllZip R xs zs
  zip_back R S f h [] [] a = tt
  zip_back R S f h [] (z ∷ zs) a = absurd a
  zip_back R S f h (x ∷ xs) [] a = absurd a
  zip_back R S f h (x ∷ xs) (z ∷ zs) a = (h x z a.0, zip_back R S f h xs zs a.1)

pub zip_length : {X Z : Type 0} (R : X → Z → Type 0) (xs : List X) (zs : List Z) → AllZip R xs zs → length xs ≡ length zs
zip_length R [] [] a = refl
zip_length R [] (z ∷ zs) a = absurd a
zip_length R (x ∷ xs) [] a = absurd a
zip_length R (x ∷ xs) (z ∷ zs) a = ap suc (zip_length R xs zs a.1)
