-- A type below one that is below a third is below the third: no way up is longer than there are types.
use Rattle.std.proofs.Common.{◌≡◌, ◌⊎◌, ℕ, ◌<◌, ◌≤◌, zero, suc, Bool, true, false, cond, not, List, [], ◌∷◌, Option, Some, None, option_map, filter, find, length, inl, inr, refl, ap, sym, ◌∙◌, subst, arith}
use Rattle.std.specs.Option.{option_map_or}
use Rattle.std.proofs.lemmas.Bool.{or_left, or_right}
use Rattle.ps_world.specs.Names.{same_name}
use Rattle.ps_world.specs.Knowledge.{climbs, is_below, parent_of}
use Rattle.ps_world.specs.declared.names.Name.{Name}
use Rattle.ps_world.specs.declared.domains.Domain.{Domain}
use Rattle.ps_world.specs.declared.domains.Param.{Param}
use Rattle.ps_world.proofs.SameTexts.{name_itself}
use Rattle.ps_action.proofs.Contained.{or_cases}
use Rattle.ps_action.proofs.Facts.{same_name-is}
use Rattle.ps_marks.proofs.Members.{no_both}

-- what one step up leads to
up_by : (n : ℕ) (d : Domain) (high : Name) (o : Option Name) → option_map_or (λ parent. climbs n d parent high) o false ≡ true → (p : Name) × (o ≡ Some p) × (climbs n d p high ≡ true)
up_by n d high None e = absurd (cc)
up_by n d high (Some p) e = (p, refl, e)

up : (n : ℕ) (d : Domain) (low high : Name) → climbs (suc n) d low high ≡ true → (same_name low high ≡ true) ⊎ ((p : Name) × (parent_of d low ≡ Some p) × (climbs n d p high ≡ true))
up n d low high e = elim (or_cases (same_name low high) (option_map_or (λ parent. climbs n d parent high) (parent_of d low) false) e) [ inl same ↦ inl same | inr more ↦ inr (up_by n d high (parent_of d low) more) ]

climbs_step : (n : ℕ) (d : Domain) (low high p : Name) → parent_of d low ≡ Some p → climbs n d p high ≡ true → climbs (suc n) d low high ≡ true
climbs_step n d low high p e c = or_right (same_name low high) (option_map_or (λ parent. climbs n d parent high) (parent_of d low) false) (ap (λ o. option_map_or (λ parent. climbs n d parent high) o false) e ∙ c)

climbs_same : (n : ℕ) (d : Domain) (low high : Name) → same_name low high ≡ true → climbs n d low high ≡ true
climbs_same zero d low high e = e
climbs_same (suc n) d low high e = or_left (same_name low high) (option_map_or (λ parent. climbs n d parent high) (parent_of d low) false) e

-- one way up after another
climbs_on : (n m : ℕ) (d : Domain) (a b c : Name) → climbs n d a b ≡ true → climbs m d b c ≡ true → (j : ℕ) × (climbs j d a c ≡ true)
climbs_on zero m d a b c e f = let P : Name → Type 0 = λ x. climbs m d x c ≡ true in (m, subst P (sym (same_name-is a b e)) f)
climbs_on (suc n) m d a b c e f =
    let P : Name → Type 0 = λ x. climbs m d x c ≡ true in
    elim (up n d a b e) [
      | inl same ↦ (m, subst P (sym (same_name-is a b same)) f)
      | inr w ↦ (let more = climbs_on n m d w.0 b c w.2 f in (suc more.0, climbs_step more.0 d a c w.0 w.1 more.1))
    ]

-- ---- without one type

module _ (d : Domain) (a : Name) where
  abbrev others : List Param → List Param
  others ps = filter (λ p. not (same_name a p.name)) ps

  abbrev rest : Domain
  rest = record d { types = others d.types }

  abbrev parent_in : List Param → Name → Option Name
  parent_in ps t = option_map (λ (p : Param). p.kind) (find (λ (p : Param). same_name t p.name) ps)

  parent_at : (t : Name) → same_name t a ≡ false → (p : Param) (ps : List Param) (b c : Bool) → same_name a p.name ≡ b → same_name t p.name ≡ c → parent_in (others ps) t ≡ parent_in ps t
      → option_map (λ (q : Param). q.kind) (find (λ (q : Param). same_name t q.name) (cond (not b) (p ∷ others ps) (others ps))) ≡ option_map (λ (q : Param). q.kind) (cond c (Some p) (find (λ (q : Param). same_name t q.name) ps))
  parent_at t other p ps true true e f h =
      let same : t ≡ a = same_name-is t p.name f ∙ sym (same_name-is a p.name e) in
      let itself : same_name t a ≡ true = ap (same_name t) (sym same) ∙ name_itself t in
      absurd (no_both (same_name t a) itself other)
  parent_at t other p ps true false e f h = h
  parent_at t other p ps false true e f h = rw f refl
  parent_at t other p ps false false e f h = rw f h

  -- the parents of the others stay
  parent_rest : (t : Name) → same_name t a ≡ false → (ps : List Param) → parent_in (others ps) t ≡ parent_in ps t
  parent_rest t other [] = refl
  parent_rest t other (p ∷ ps) = parent_at t other p ps (same_name a p.name) (same_name t p.name) refl refl (parent_rest t other ps)

  fewer_at : (p : Param) (ps : List Param) (b : Bool) → length (others ps) ≤ length ps → length (cond (not b) (p ∷ others ps) (others ps)) ≤ suc (length ps)
  fewer_at p ps true l = omega (arith, l)
  fewer_at p ps false l = omega (arith, l)

  fewer : (ps : List Param) → length (others ps) ≤ length ps
  fewer [] = omega arith
  fewer (p ∷ ps) = fewer_at p ps (same_name a p.name) (fewer ps)

  less_at : (q : Name) (p : Param) (ps : List Param) (b : Bool) → same_name a p.name ≡ b → (parent_in ps a ≡ Some q → length (others ps) < length ps) → option_map (λ (r : Param). r.kind) (cond b (Some p) (find (λ (r : Param). same_name a r.name) ps)) ≡ Some q
      → length (cond (not b) (p ∷ others ps) (others ps)) < suc (length ps)
  less_at q p ps true e h f = let l = fewer ps in omega (arith, l)
  less_at q p ps false e h f = let l = h f in omega (arith, l)

  -- a type that has a parent is among the types
  less : (q : Name) (ps : List Param) → parent_in ps a ≡ Some q → length (others ps) < length ps
  less q [] e = absurd (cc)
  less q (p ∷ ps) e = less_at q p ps (same_name a p.name) refl (less q ps) e

  none_at : (p : Param) (ps : List Param) (b : Bool) → same_name a p.name ≡ b → parent_in (others ps) a ≡ None → option_map (λ (r : Param). r.kind) (find (λ (r : Param). same_name a r.name) (cond (not b) (p ∷ others ps) (others ps))) ≡ None
  none_at p ps true e h = h
  none_at p ps false e h = rw e h

  -- the type itself has none
  none_left : (ps : List Param) → parent_in (others ps) a ≡ None
  none_left [] = refl
  none_left (p ∷ ps) = none_at p ps (same_name a p.name) refl (none_left ps)

  -- a way up to this type without the other, or one from the other
  abbrev Avoids : ℕ → Name → Name → Type 0
  Avoids n p b = (climbs n rest p b ≡ true) ⊎ ((m : ℕ) × (m < n) × (climbs m d a b ≡ true))

  avoid_at : (n : ℕ) (p b q : Name) (c : Bool) → same_name q a ≡ c → same_name p a ≡ false → parent_of d p ≡ Some q → climbs n d q b ≡ true → (same_name q a ≡ false → Avoids n q b) → Avoids (suc n) p b
  avoid_at n p b q true s other e c more = let P : Name → Type 0 = λ x. climbs n d x b ≡ true in inr (n, omega arith, subst P (same_name-is q a s) c)
  avoid_at n p b q false s other e c more =
      elim (more s) [
        | inl low ↦ inl (climbs_step n rest p b q (parent_rest p other d.types ∙ e) low)
        | inr w ↦ (let less : w.0 < suc n = omega (arith, w.1) in inr (w.0, less, w.2))
      ]

  -- a way up that starts elsewhere goes without the type, or comes to it
  avoid : (n : ℕ) (p b : Name) → same_name p a ≡ false → climbs n d p b ≡ true → Avoids n p b
  avoid zero p b other e = inl e
  avoid (suc n) p b other e =
      elim (up n d p b e) [
        | inl same ↦ inl (climbs_same (suc n) rest p b same)
        | inr w ↦ avoid_at n p b w.0 (same_name w.0 a) refl other w.1 w.2 (λ s. avoid n w.0 b s w.2)
      ]

  lift_by : (x y : Name) (c : Bool) → same_name x a ≡ c → parent_of rest x ≡ Some y → parent_of d x ≡ Some y
  lift_by x y true s e =
      let none : parent_of rest x ≡ None = ap (parent_of rest) (same_name-is x a s) ∙ none_left d.types in
      absurd (cc)
  lift_by x y false s e = sym (parent_rest x s d.types) ∙ e

  -- a way up without a type is a way up
  lift : (n : ℕ) (p b : Name) → climbs n rest p b ≡ true → climbs n d p b ≡ true
  lift zero p b e = e
  lift (suc n) p b e =
      elim (up n rest p b e) [
        | inl same ↦ climbs_same (suc n) d p b same
        | inr w ↦ climbs_step n d p b w.0 (lift_by p w.0 (same_name p a) refl w.1) (lift n w.0 b w.2)
      ]

-- ---- no way up is longer than there are types

-- a shorter way among fewer types
abbrev Lowers : ℕ → Type 0
Lowers most = (n : ℕ) (e : Domain) (p b : Name) → suc (length e.types) ≤ most → climbs n e p b ≡ true → (j : ℕ) × (suc j ≡ most) × (climbs j e p b ≡ true)

turn : (most : ℕ) → Lowers most → (n : ℕ) (d : Domain) (a b p : Name) → length d.types ≤ most → parent_of d a ≡ Some p → climbs n d p b ≡ true → (c : Bool) → same_name p a ≡ c
    → ((m : ℕ) → m ≤ n → climbs m d a b ≡ true → climbs most d a b ≡ true) → climbs most d a b ≡ true
turn most lower n d a b p l e way true s again = let P : Name → Type 0 = λ x. climbs n d x b ≡ true in again n (omega arith) (subst P (same_name-is p a s) way)
turn most lower n d a b p l e way false s again =
    elim (avoid d a n p b s way) [
      | inl low ↦ (
          let shorter = less d a p d.types e in
          let w = lower n (rest d a) p b (omega (arith, l, shorter)) low in
          let P : ℕ → Type 0 = λ m. climbs m d a b ≡ true in
          subst P w.1 (climbs_step w.0 d a b p e (lift d a w.0 p b w.2)))
      | inr w ↦ again w.0 (omega (arith, w.1)) w.2
    ]

inner : (most : ℕ) → Lowers most → (fuel n : ℕ) (d : Domain) (a b : Name) → length d.types ≤ most → n ≤ fuel → climbs n d a b ≡ true → climbs most d a b ≡ true
inner most lower fuel zero d a b l f e = climbs_same most d a b e
inner most lower zero (suc n) d a b l f e = absurd (omega (arith, f))
inner most lower (suc fuel) (suc n) d a b l f e =
    elim (up n d a b e) [
      | inl same ↦ climbs_same most d a b same
      | inr w ↦ turn most lower n d a b w.0 l w.1 w.2 (same_name w.0 a) refl (λ m few way. inner most lower fuel m d a b l (omega (arith, f, few)) way)
    ]

bounded : (most n : ℕ) (d : Domain) (a b : Name) → length d.types ≤ most → climbs n d a b ≡ true → climbs most d a b ≡ true
bounded zero n d a b l e = inner zero (λ m o p q few way. absurd (omega (arith, few))) n n d a b l (omega arith) e
bounded (suc most) n d a b l e = inner (suc most) (λ m o p q few way. (most, refl, bounded most m o p q (omega (arith, few)) way)) n n d a b l (omega arith) e

pub below_below : (d : Domain) (a b c : Name) → is_below d a b ≡ true → is_below d b c ≡ true → is_below d a c ≡ true
below_below d a b c e f =
    let on = climbs_on (length d.types) (length d.types) d a b c e f in
    bounded (length d.types) on.0 d a c (omega arith) on.1
