-- What is said where a test is passed, and tests of numbers and names.
use Rattle.std.proofs.Common.{◌≡◌, ℕ, ◌<◌, ◌≤◌, ◌==◌, ◌&&◌, nat_lt, Bool, true, false, Option, Some, None, is_none, is_some, List, [], ◌∷◌, find, refl, arith, ap, sym, ◌∙◌, inl, inr, ◌⊎◌}
use Rattle.std.specs.List.{list_all}
use Rattle.std.specs.Option.{unwrap_or}
use Rattle.std.proofs.lemmas.Bool.{cases_Bool, cond-false, cond-true, eqb-true, ltb-false, ltb-true, true≢false, and_parts}
use Rattle.std.proofs.lemmas.Bool.Decides.{nat_tests}
use Rattle.ps_world.specs.Names.{same_name}
use Rattle.ps_world.specs.declared.names.Name.{Name}
use Rattle.ps_world.proofs.Optionals.{some_same}
use Rattle.ps_action.proofs.Facts.{same_name-is}
use Rattle.ps_rules.specs.Reading.{only_if}

-- ---- tests

-- a test has one answer
pub clash : {C : Type 0} (b : Bool) → b ≡ true → b ≡ false → C
clash b e f = absurd (true≢false (sym e ∙ f))

-- what follows from either answer of a test
pub by_test : {C : Type 0} (b : Bool) → (b ≡ true → C) → (b ≡ false → C) → C
by_test true f g = f refl
by_test false f g = g refl

-- ---- what is said

-- what comes of it: what is said where the test is passed, and what was before where it isn't
pub picked : {A : Type 0} (b : Bool) (x o y : A) → unwrap_or (only_if b x) o ≡ y → ((b ≡ true) × (x ≡ y)) ⊎ ((b ≡ false) × (o ≡ y))
picked true x o y e = inl (refl, e)
picked false x o y e = inr (refl, e)

-- what is said where the test is passed
pub pick_yes : {A : Type 0} (b : Bool) (x o : A) → b ≡ true → unwrap_or (only_if b x) o ≡ x
pick_yes b x o e = ap (λ b. unwrap_or (only_if b x) o) e

-- what was before where it isn't
pub pick_no : {A : Type 0} (b : Bool) (x o : A) → b ≡ false → unwrap_or (only_if b x) o ≡ o
pick_no b x o e = ap (λ b. unwrap_or (only_if b x) o) e

-- true stays true where only true is said
pub stays : (b old : Bool) → old ≡ true → unwrap_or (only_if b true) old ≡ true
stays true old e = refl
stays false old e = e

-- true comes of false that is said only where the test isn't passed
pub kept : (b old : Bool) → unwrap_or (only_if b false) old ≡ true → (b ≡ false) × (old ≡ true)
kept true old e = absurd (cc)
kept false old e = (refl, e)

-- ---- options

-- a value isn't nothing
pub none_some : {A C : Type 0} (o : Option A) (a : A) → o ≡ Some a → is_none o ≡ true → C
none_some o a e n = absurd (true≢false (sym n ∙ ap is_none e))

-- nothing is not some value
pub none_is : {A : Type 0} (o : Option A) → is_none o ≡ true → is_some o ≡ false
none_is None e = refl
none_is (Some x) e = absurd (cc)

-- ---- numbers and names

-- a smaller number is another
pub count_other : (m n : ℕ) → m < n → (m == n) ≡ false
count_other m n e = grind (arith, nat_tests)

-- a number that isn't as great is below
pub below : (m n : ℕ) → (n ≤ m → ⊥) → m < n
below m n h = elim (cases_Bool (nat_lt m n)) [ inl t ↦ ltb-true m n t | inr f ↦ absurd (h (ltb-false m n f)) ]

-- one request and one performer
pub at_one : (r s : ℕ) (p q : Name) → ((r == s) && same_name p q) ≡ true → (r ≡ s) × (p ≡ q)
at_one r s p q h = let w = and_parts (r == s) (same_name p q) h in (eqb-true r s w.0, same_name-is p q w.1)

-- ---- lists

-- what is found passes the test, and passes what all pass
pub found : {A : Type 0} (test other : A → Bool) (xs : List A) (x : A) → find test xs ≡ Some x → (test x ≡ true) × (list_all other xs ≡ true → other x ≡ true)
found test other [] x e = absurd (cc)
found test other (y ∷ ys) x e =
    elim (cases_Bool (test y)) [
      | inl t ↦
          let same : x ≡ y = sym (some_same y x (sym (cond-true (test y) (Some y) (find test ys) t) ∙ e)) in
          (ap test same ∙ t, λ all. ap other same ∙ (and_parts (other y) (list_all other ys) all).0)
      | inr t ↦
          let w = found test other ys x (sym (cond-false (test y) (Some y) (find test ys) t) ∙ e) in
          (w.0, λ all. w.1 (and_parts (other y) (list_all other ys) all).1)
    ]
