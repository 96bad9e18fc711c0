-- Facts among others.
use Rattle.std.proofs.Common.{◌≡◌, ◌⊎◌, Bool, true, false, not, ◌||◌, List, [], ◌∷◌, ◌++◌, filter, take, fold, ℕ, zero, suc, inl, inr, refl}
use Rattle.std.specs.Cmp.{first_so, second_so}
use Rattle.std.specs.List.{Contains, list_any, list_all}
use Rattle.std.specs.BTreeSet.{insert_key}
use Rattle.std.proofs.lemmas.Cmp.{eq_by_cmp_equiv}
use Rattle.std.proofs.lemmas.Map.Views.{list_any-from_Contains, Contains-from_any, tells_apart}
use Rattle.std.proofs.lemmas.Bool.{and_from, or_left, or_right}
use Rattle.ps_world.specs.Facts.{fact_cmp}
use Rattle.ps_world.specs.Knowledge.{same_fact}
use Rattle.ps_world.specs.declared.facts.Fact.{Fact}
use Rattle.ps_action.proofs.Facts.{facts_total, exact_facts}
use Rattle.ps_action.proofs.Contained.{fact_in_fold, fact_in_filter, or_cases}
use Rattle.ps_marks.specs.Closures.{is_in}

pub no_both : (a : Bool) → a ≡ true → a ≡ false → ⊥
no_both a p q = absurd (cc)

pub contains_in : (fs : List Fact) (x : Fact) → is_in fs x ≡ true → Contains fs x
contains_in fs x e = Contains-from_any (tells_apart exact_facts) x fs e

pub in_contains : (fs : List Fact) (x : Fact) → Contains fs x → is_in fs x ≡ true
in_contains fs x c = list_any-from_Contains (eq_by_cmp_equiv facts_total) x fs c

-- facts that are put in are there, and so are those from before, and no others
pub in_fold : (known more : List Fact) (x : Fact) → is_in (fold (insert_key fact_cmp) known more) x ≡ true → (is_in more x ≡ true) ⊎ (is_in known x ≡ true)
in_fold known more x e =
    elim ((fact_in_fold known more x).0 (contains_in (fold (insert_key fact_cmp) known more) x e)) [
      | inl c ↦ inl (in_contains more x c)
      | inr c ↦ inr (in_contains known x c)
    ]

pub fold_has_more : (known more : List Fact) (x : Fact) → is_in more x ≡ true → is_in (fold (insert_key fact_cmp) known more) x ≡ true
fold_has_more known more x e = in_contains (fold (insert_key fact_cmp) known more) x ((fact_in_fold known more x).1 (inl (contains_in more x e)))

pub fold_has_known : (known more : List Fact) (x : Fact) → is_in known x ≡ true → is_in (fold (insert_key fact_cmp) known more) x ≡ true
fold_has_known known more x e = in_contains (fold (insert_key fact_cmp) known more) x ((fact_in_fold known more x).1 (inr (contains_in known x e)))

pub in_filter : (p : Fact → Bool) (fs : List Fact) (x : Fact) → is_in (filter p fs) x ≡ true → (is_in fs x ≡ true) × (p x ≡ true)
in_filter p fs x e = let w = (fact_in_filter p fs x).0 (contains_in (filter p fs) x e) in (in_contains fs x w.0, w.1)

pub filter_has : (p : Fact → Bool) (fs : List Fact) (x : Fact) → is_in fs x ≡ true → p x ≡ true → is_in (filter p fs) x ≡ true
filter_has p fs x e s = in_contains (filter p fs) x ((fact_in_filter p fs x).1 (contains_in fs x e, s))

-- what is among several is among one of them
pub in_both : (xs ys : List Fact) (x : Fact) → is_in (xs ++ ys) x ≡ true → (is_in xs x ≡ true) ⊎ (is_in ys x ≡ true)
in_both [] ys x e = inr e
in_both (z ∷ zs) ys x e =
    elim (or_cases (same_fact x z) (is_in (zs ++ ys) x) e) [
      | inl here ↦ inl (or_left (same_fact x z) (is_in zs x) here)
      | inr there ↦ elim (in_both zs ys x there) [ inl a ↦ inl (or_right (same_fact x z) (is_in zs x) a) | inr b ↦ inr b ]
    ]

pub both_first : (xs ys : List Fact) (x : Fact) → is_in xs x ≡ true → is_in (xs ++ ys) x ≡ true
both_first [] ys x e = absurd (cc)
both_first (z ∷ zs) ys x e =
    elim (or_cases (same_fact x z) (is_in zs x) e) [
      | inl here ↦ or_left (same_fact x z) (is_in (zs ++ ys) x) here
      | inr there ↦ or_right (same_fact x z) (is_in (zs ++ ys) x) (both_first zs ys x there)
    ]

pub both_second : (xs ys : List Fact) (x : Fact) → is_in ys x ≡ true → is_in (xs ++ ys) x ≡ true
both_second [] ys x e = e
both_second (z ∷ zs) ys x e = or_right (same_fact x z) (is_in (zs ++ ys) x) (both_second zs ys x e)

pub in_take : (n : ℕ) (fs : List Fact) (x : Fact) → is_in (take n fs) x ≡ true → is_in fs x ≡ true
in_take zero fs x e = absurd (cc)
in_take (suc n) [] x e = absurd (cc)
in_take (suc n) (f ∷ fs) x e =
    elim (or_cases (same_fact x f) (is_in (take n fs) x) e) [
      | inl here ↦ or_left (same_fact x f) (is_in fs x) here
      | inr there ↦ or_right (same_fact x f) (is_in fs x) (in_take n fs x there)
    ]

-- ---- tests of all

pub all_both : (p : Fact → Bool) (xs ys : List Fact) → list_all p xs ≡ true → list_all p ys ≡ true → list_all p (xs ++ ys) ≡ true
all_both p [] ys a b = b
all_both p (x ∷ xs) ys a b = and_from (p x) (list_all p (xs ++ ys)) (first_so (p x) (list_all p xs) a) (all_both p xs ys (second_so (p x) (list_all p xs) a) b)

pub all_so : (p q : Fact → Bool) (xs : List Fact) → ((x : Fact) → p x ≡ true → q x ≡ true) → list_all p xs ≡ true → list_all q xs ≡ true
all_so p q [] h a = refl
all_so p q (x ∷ xs) h a = and_from (q x) (list_all q xs) (h x (first_so (p x) (list_all p xs) a)) (all_so p q xs h (second_so (p x) (list_all p xs) a))

-- where all are so, none is not
none_at : (p : Fact → Bool) (x : Fact) (xs : List Fact) (b : Bool) → p x ≡ b → p x ≡ true → list_any (λ y. not (p y)) xs ≡ false → (not b || list_any (λ y. not (p y)) xs) ≡ false
none_at p x xs true e s rest = rest
none_at p x xs false e s rest = absurd (no_both (p x) s e)

pub none_not : (p : Fact → Bool) (xs : List Fact) → list_all p xs ≡ true → list_any (λ x. not (p x)) xs ≡ false
none_not p [] a = refl
none_not p (x ∷ xs) a = none_at p x xs (p x) refl (first_so (p x) (list_all p xs) a) (none_not p xs (second_so (p x) (list_all p xs) a))
