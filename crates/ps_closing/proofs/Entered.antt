-- Rules put among the users of places.
use Rattle.std.proofs.Common.{◌≡◌, ◌⊎◌, ℕ, ◌+◌, ◌<◌, zero, suc, List, [], ◌∷◌, ◌++◌, Some, Global, Vec, Contains, length, set, slice_get, inl, inr, refl, ap, sym, ◌∙◌, subst, arith}
use Rattle.std.proofs.lemmas.List.{length-set}
use Rattle.std.proofs.lemmas.List.Elements.{Contains-append_cases, Contains-append_left, Contains-push, Contains-push_cases}
use Rattle.std.proofs.lemmas.Option.{slice_get_within}
use Rattle.ps_closing.specs.declared.rule.Rule.{Rule}
use Rattle.ps_closing.specs.Users.{AreUsers, Enters, HaveNone, IsUser}
use Rattle.ps_closing.proofs.Growing.{one_of}

pub enters_none : (j : ℕ) (users : List (Vec ℕ Global)) → Enters [] j users users
enters_none j users = record { wide = refl; keeps = λ p i u. u; added = λ p c. absurd (omega (arith, c.1)); only = λ p i u. inl u }

pub enters_more : (ps : List ℕ) (p j : ℕ) (a b c : List (Vec ℕ Global)) → Enters ps j a b → Enters (p ∷ []) j b c → Enters (ps ++ p ∷ []) j a c
enters_more ps p j a b c g h = record {
  wide = h.wide ∙ g.wide;
  keeps = λ q i u. h.keeps q i (g.keeps q i u);
  added = λ q m. elim (Contains-append_cases ps (p ∷ []) q m) [ inl old ↦ h.keeps q j (g.added q old) | inr new ↦ h.added q new ];
  only = λ q i u. elim (h.only q i u) [ inl old ↦ g.only q i old | inr same ↦ inr same ];
}

-- ---- one place

abbrev Lists : Type 0
Lists = List (Vec ℕ Global)

-- the place that was written, and the others
written : (us : Lists) (p q : ℕ) (v w : Vec ℕ Global) → slice_get (set us p v) q ≡ Some w → (slice_get us q ≡ Some w) ⊎ ((q ≡ p) × (v ≡ w))
written [] p q v w e = absurd (cc)
written (u ∷ us) zero zero v w e = inr (refl, cc)
written (u ∷ us) zero (suc q) v w e = inl e
written (u ∷ us) (suc p) zero v w e = inl e
written (u ∷ us) (suc p) (suc q) v w e = elim (written us p q v w e) [ inl old ↦ inl old | inr s ↦ inr (ap suc s.0, s.1) ]

kept : (us : Lists) (p q : ℕ) (u v w : Vec ℕ Global) → slice_get us p ≡ Some u → slice_get us q ≡ Some w → (slice_get (set us p v) q ≡ Some w) ⊎ ((u ≡ w) × (slice_get (set us p v) q ≡ Some v))
kept [] p q u v w d e = absurd (cc)
kept (x ∷ us) zero zero u v w d e = inr (cc, refl)
kept (x ∷ us) zero (suc q) u v w d e = inl e
kept (x ∷ us) (suc p) zero u v w d e = inl e
kept (x ∷ us) (suc p) (suc q) u v w d e = kept us p q u v w d e

there : (us : Lists) (p : ℕ) (u v : Vec ℕ Global) → slice_get us p ≡ Some u → slice_get (set us p v) p ≡ Some v
there [] p u v e = absurd (cc)
there (x ∷ us) zero u v e = refl
there (x ∷ us) (suc p) u v e = there us p u v e

pub enters_one : (us : Lists) (p j : ℕ) (u v : Vec ℕ Global) → slice_get us p ≡ Some u → v.items ≡ u.items ++ j ∷ [] → Enters (p ∷ []) j us (set us p v)
enters_one us p j u v at is =
    let P : List ℕ → Type 0 = λ l. Contains l j in
    record {
      wide = length-set us p v;
      keeps = λ q i w. elim (kept us p q u v w.0 at w.1) [
        | inl same ↦ (w.0, same, w.2)
        | inr m ↦
            let Q : Vec ℕ Global → Type 0 = λ x. Contains x.items i in
            let R : List ℕ → Type 0 = λ l. Contains l i in
            (v, m.1, subst R (sym is) (Contains-append_left u.items (j ∷ []) i (subst Q (sym m.0) w.2)))
      ];
      added = λ q c.
          let S : ℕ → Type 0 = λ x. IsUser (set us p v) x j in
          subst S (one_of p q c) (v, there us p u v at, subst P (sym is) (Contains-push u.items j));
      only = λ q i w. elim (written us p q v w.0 w.1) [
        | inl old ↦ inl (w.0, old, w.2)
        | inr m ↦
            let Q : Vec ℕ Global → Type 0 = λ x. Contains x.items i in
            let R : List ℕ → Type 0 = λ l. Contains l i in
            let T : ℕ → Type 0 = λ x. IsUser us x i in
            elim (Contains-push_cases u.items j i (subst R is (subst Q (sym m.1) w.2))) [
              | inl old ↦ inl (subst T (sym m.0) (u, at, old))
              | inr same ↦ inr (sym same)
            ]
      ];
    }

-- ---- no users, and those of the first rules

pub none_more : (us : Lists) (v : Vec ℕ Global) → HaveNone us → v.items ≡ [] → HaveNone (us ++ v ∷ [])
none_more us v none empty p j w =
    elim (appended us p v w.0 w.1) [
      | inl old ↦ none p j (w.0, old, w.2)
      | inr same ↦ (
          let Q : Vec ℕ Global → Type 0 = λ x. Contains x.items j in
          let R : List ℕ → Type 0 = λ l. Contains l j in
          let c = subst R empty (subst Q (sym same) w.2) in
          omega (arith, c.1))
    ]
  where
    appended : (xs : Lists) (q : ℕ) (x y : Vec ℕ Global) → slice_get (xs ++ x ∷ []) q ≡ Some y → (slice_get xs q ≡ Some y) ⊎ (x ≡ y)
    appended [] zero x y e = inr (cc)
    appended [] (suc q) x y e = absurd (cc)
    appended (z ∷ xs) zero x y e = inl e
    appended (z ∷ xs) (suc q) x y e = appended xs q x y e

pub none_none : HaveNone []
none_none p j w = absurd (let e = w.1 in cc)

-- the first so many rules are among the users of what they need
pub record AreFirst (rules : List Rule) (n : ℕ) (users : Lists) : Type 0 where
  pub within : (p j : ℕ) → IsUser users p j → j < n
  pub listed : (j : ℕ) (r : Rule) (p : ℕ) → j < n → slice_get rules j ≡ Some r → Contains r.needs.items p → IsUser users p j

pub first_none : (rules : List Rule) (users : Lists) → HaveNone users → AreFirst rules 0 users
first_none rules users none = record { within = λ p j u. absurd (none p j u); listed = λ j r p l. absurd (omega (arith, l)) }

before_or_at : (j n : ℕ) → j < suc n → (j < n) ⊎ (j ≡ n)
before_or_at zero zero l = inr refl
before_or_at zero (suc n) l = inl (omega arith)
before_or_at (suc j) zero l = absurd (omega (arith, l))
before_or_at (suc j) (suc n) l = elim (before_or_at j n (omega (arith, l))) [ inl low ↦ inl (omega (arith, low)) | inr same ↦ inr (ap suc same) ]

-- with one more
pub first_more : (rules : List Rule) (n : ℕ) (r : Rule) (old new : Lists) → slice_get rules n ≡ Some r → AreFirst rules n old → Enters r.needs.items n old new → AreFirst rules (n + 1) new
first_more rules n r old new at f h = record {
  within = λ p j u. elim (h.only p j u) [ inl was ↦ (let low = f.within p j was in omega (arith, low)) | inr same ↦ omega (arith, same) ];
  listed = λ j x p l there needs. elim (before_or_at j n (omega (arith, l))) [
    | inl low ↦ h.keeps p j (f.listed j x p low there needs)
    | inr same ↦
        let here : slice_get rules j ≡ Some r = ap (slice_get rules) same ∙ at in
        let alike : x ≡ r = cc in
        let P : Rule → Type 0 = λ q. Contains q.needs.items p in
        let Q : ℕ → Type 0 = λ i. IsUser new p i in
        subst Q (sym same) (h.added p (subst P alike needs))
  ];
}

-- in the end all are
pub first_all : (rules : List Rule) (n : ℕ) (users : Lists) → n ≡ length rules → AreFirst rules n users → AreUsers rules users
first_all rules n users all f = record {
  within = λ p j u. let low = f.within p j u in omega (arith, low, all);
  listed = λ j r p at needs. f.listed j r p (let low = slice_get_within rules j r at in omega (arith, low, all)) at needs;
}
