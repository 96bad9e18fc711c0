-- Lists without some of their items.
use Rattle.std.proofs.Common.{◌≡◌, ℕ, ◌+◌, ◌≤◌, inl, inr, List, [], ◌∷◌, ◌++◌, flat_map, length, map, refl, ap, sym, ◌∙◌, subst, arith}
use Rattle.std.proofs.lemmas.List.{append-nil, append_assoc, length_push}
use Rattle.ps_world.specs.declared.names.Name.{Name}
use Rattle.ps_world.specs.declared.domains.Domain.{Domain}
use Rattle.ps_world.specs.declared.facts.Fact.{Fact}
use Rattle.ps_ground.specs.Thinned.{GoesOn, IsThinned, IsUseless, IsUselessFrom}

module _ {A : Type 0} (P : A → Type 0) where
  -- without one more item
  pub thin_left : (ks xs : List A) (x : A) → P x → IsThinned P ks xs → IsThinned P ks (x ∷ xs)
  thin_left [] xs x p t = (p, t)
  thin_left (k ∷ ks) xs x p t = inr (p, t)

  -- no more items are left
  pub thin_fewer : (ks xs : List A) → IsThinned P ks xs → length ks ≤ length xs
  thin_fewer ks [] e = omega (arith, ap length e)
  thin_fewer [] (x ∷ xs) w = omega arith
  thin_fewer (k ∷ ks) (x ∷ xs) w =
      elim w [
        | inl h ↦ let few = thin_fewer ks xs h.1 in omega (arith, few)
        | inr h ↦ let few = thin_fewer (k ∷ ks) xs h.1 in omega (arith, few)
      ]

  -- all of the items
  pub thin_none : (xs : List A) → IsThinned P xs xs
  thin_none [] = refl
  thin_none (x ∷ xs) = inl (refl, thin_none xs)

  pub thin_both : (ks ls xs ys : List A) → IsThinned P ks xs → IsThinned P ls ys → IsThinned P (ks ++ ls) (xs ++ ys)
  thin_both ks ls [] ys e t = subst (λ (l : List A). IsThinned P (l ++ ls) ys) (sym e) t
  thin_both [] ls (x ∷ xs) ys w t = thin_left ls (xs ++ ys) x w.0 (thin_both [] ls xs ys w.1 t)
  thin_both (k ∷ ks) ls (x ∷ xs) ys w t =
      elim w [
        | inl h ↦ inl (h.0, thin_both ks ls xs ys h.1 t)
        | inr h ↦ inr (h.0, thin_both (k ∷ ks) ls xs ys h.1 t)
      ]

  -- what is thinned of what is thinned
  pub thin_through : (ks ls xs : List A) → IsThinned P ks ls → IsThinned P ls xs → IsThinned P ks xs
  thin_through ks ls [] t w = subst (λ (l : List A). IsThinned P ks l) w t
  thin_through ks [] (x ∷ xs) t w = subst (λ (l : List A). IsThinned P l (x ∷ xs)) (sym t) w
  thin_through [] (l ∷ ls) (x ∷ xs) t w =
      elim w [
        | inl h ↦ (subst P h.0 t.0, thin_through [] ls xs t.1 h.1)
        | inr h ↦ (h.0, thin_through [] (l ∷ ls) xs t h.1)
      ]
  thin_through (k ∷ ks) (l ∷ ls) (x ∷ xs) t w =
      elim w [
        | inl h ↦
            elim t [
              | inl u ↦ inl (u.0 ∙ h.0, thin_through ks ls xs u.1 h.1)
              | inr u ↦ inr (subst P h.0 u.0, thin_through (k ∷ ks) ls xs u.1 h.1)
            ]
        | inr h ↦ inr (h.0, thin_through (k ∷ ks) (l ∷ ls) xs t h.1)
      ]

  module _ (whole : List A) where
    -- what is done, with more where so many items are thinned to these
    pub goes_on : (left new xs done : List A) → IsThinned P new xs → GoesOn P (xs ++ left) whole done → GoesOn P left whole (done ++ new)
    goes_on left new xs done t on ks u = subst (λ (l : List A). IsThinned P l whole) (sym (append_assoc done new ks)) (on (new ++ ks) (thin_both new ks xs left t u))

    -- with the first of those that are still to come
    pub goes_pushed : (x : A) (left done more : List A) → more ≡ done ++ x ∷ [] → GoesOn P (x ∷ left) whole done → GoesOn P left whole more
    goes_pushed x left done more e on = subst (λ (l : List A). GoesOn P left whole l) (sym e) (goes_on left (x ∷ []) (x ∷ []) done (thin_none (x ∷ [])) on)

    -- the same items are still to come
    pub goes_same : (left more done : List A) → left ≡ more → GoesOn P left whole done → GoesOn P more whole done
    goes_same left more done e on = subst (λ (l : List A). GoesOn P l whole done) e on

    -- where nothing is left
    pub gone_on : (left done : List A) → left ≡ [] → GoesOn P left whole done → IsThinned P done whole
    gone_on left done e on =
        subst (λ (l : List A). IsThinned P l whole) (append-nil done) (on [] (subst (λ (l : List A). IsThinned P [] l) (sym e) refl))

module _ {A B : Type 0} (P : A → Type 0) (Q : B → Type 0) (f : B → A) (h : (b : B) → Q b → P (f b)) where
  -- what is made of each item
  pub thin_map : (ks xs : List B) → IsThinned Q ks xs → IsThinned P (map f ks) (map f xs)
  thin_map ks [] e = ap (map f) e
  thin_map [] (x ∷ xs) w = (h x w.0, thin_map [] xs w.1)
  thin_map (k ∷ ks) (x ∷ xs) w =
      elim w [
        | inl u ↦ inl (ap f u.0, thin_map ks xs u.1)
        | inr u ↦ inr (h x u.0, thin_map (k ∷ ks) xs u.1)
      ]

-- lists that one of these names begins, where what follows is thinned
pub thin_picked : (P Q : List Name → Type 0) → ((n : Name) (args : List Name) → Q args → P (n ∷ args)) → (ns : List Name) (tails lists : List (List Name)) → IsThinned Q tails lists → IsThinned P (flat_map (λ n. map (λ args. n ∷ args) tails) ns) (flat_map (λ n. map (λ args. n ∷ args) lists) ns)
thin_picked P Q h [] tails lists t = refl
thin_picked P Q h (n ∷ ns) tails lists t =
    thin_both P (map (λ args. n ∷ args) tails) (flat_map (λ n. map (λ args. n ∷ args) tails) ns) (map (λ args. n ∷ args) lists) (flat_map (λ n. map (λ args. n ∷ args) lists) ns) (thin_map P Q (λ args. n ∷ args) (h n) tails lists t) (thin_picked P Q h ns tails lists t)

-- arguments that lead nowhere whatever those before them do so with one more before them
pub useless_longer : (d : Domain) (heads : List Name) (fixed : List Fact) (name : Name) (m : ℕ) (n : Name) (args : List Name) → IsUselessFrom d heads fixed name (m + 1) args → IsUselessFrom d heads fixed name m (n ∷ args)
useless_longer d heads fixed name m n args useless first e =
    subst (λ (l : List Name). IsUseless d heads fixed (record { action = name; args = l })) (append_assoc first (n ∷ []) args) (useless (first ++ n ∷ []) (length_push first n ∙ ap (λ k. k + 1) e))
