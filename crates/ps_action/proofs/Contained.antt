-- What lists contain.
use Rattle.std.proofs.Common.{◌≡◌, ◌↔◌, ◌⊎◌, ℕ, ◌<◌, zero, suc, Bool, true, false, ◌||◌, ◌&&◌, List, [], ◌∷◌, filter, fold, get_or, inl, inr, refl, ap, sym, ◌∙◌, length, arith}
use Rattle.std.specs.Cmp.{first_so, second_so}
use Rattle.std.specs.List.{Contains, list_any}
use Rattle.std.specs.BTreeSet.{insert_key}
use Rattle.std.proofs.lemmas.Bool.{and_from, or_right}
use Rattle.std.proofs.lemmas.Cmp.{eq_by_cmp_equiv}
use Rattle.std.proofs.lemmas.Map.Made.{is_member-filter}
use Rattle.std.proofs.lemmas.Map.Views.{list_any-from_Contains, Contains-from_any, tells_apart}
use Rattle.ps_world.specs.Facts.{fact_cmp}
use Rattle.ps_world.specs.Knowledge.{same_fact}
use Rattle.ps_world.specs.declared.facts.Fact.{Fact}
use Rattle.ps_action.proofs.Facts.{facts_total, exact_facts}
use Rattle.ps_action.proofs.Keys.{any-insert_key}

contains_at : {X : Type 0} (x y : X) (xs : List X) (k : ℕ) → k < length (x ∷ xs) → get_or (x ∷ xs) k y ≡ y → (x ≡ y) ⊎ Contains xs y
contains_at x y xs zero l e = inl e
contains_at x y xs (suc k) l e = inr (k, omega arith, e)

pub contains_cases : {X : Type 0} (x y : X) (xs : List X) → Contains (x ∷ xs) y → (x ≡ y) ⊎ Contains xs y
contains_cases x y xs c = contains_at x y xs c.0 c.1 c.2

pub contains_first : {X : Type 0} (x y : X) (xs : List X) → x ≡ y → Contains (x ∷ xs) y
contains_first x y xs e = (0, omega arith, e)

pub contains_later : {X : Type 0} (x y : X) (xs : List X) → Contains xs y → Contains (x ∷ xs) y
contains_later x y xs c = (suc c.0, omega (arith, c.1), c.2)

pub contains_none : {X : Type 0} (y : X) → ¬ (Contains [] y)
contains_none y c = omega (arith, c.1)

pub or_cases : (a b : Bool) → (a || b) ≡ true → (a ≡ true) ⊎ (b ≡ true)
or_cases true b e = inl refl
or_cases false b e = inr e

-- ---- facts

pub fact_same : (f g : Fact) → same_fact f g ≡ true → f ≡ g
fact_same f g e = tells_apart exact_facts f g e

pub fact_itself : (f : Fact) → same_fact f f ≡ true
fact_itself f = (eq_by_cmp_equiv facts_total).refl f

pub fact_in_filter : (p : Fact → Bool) (xs : List Fact) (f : Fact) → Contains (filter p xs) f ↔ (Contains xs f × (p f ≡ true))
fact_in_filter p xs f =
    let laws = eq_by_cmp_equiv facts_total in
    let both : list_any (same_fact f) (filter p xs) ≡ (list_any (same_fact f) xs && p f) =
    is_member-filter laws p f (λ g e. ap p (fact_same f g e)) xs in (
      λ c.
          let h : (list_any (same_fact f) xs && p f) ≡ true = sym both ∙ list_any-from_Contains laws f (filter p xs) c in
          (Contains-from_any (tells_apart exact_facts) f xs (first_so (list_any (same_fact f) xs) (p f) h), second_so (list_any (same_fact f) xs) (p f) h),
      λ w. Contains-from_any (tells_apart exact_facts) f (filter p xs) (both ∙ and_from (list_any (same_fact f) xs) (p f) (list_any-from_Contains laws f xs w.0) w.1),
    )

-- after one more fact: the facts from before, and that one
fact_in_insert : (xs : List Fact) (more f : Fact) → Contains (insert_key fact_cmp xs more) f ↔ (Contains xs f ⊎ (f ≡ more))
fact_in_insert xs more f =
    let laws = eq_by_cmp_equiv facts_total in
    let after = any-insert_key facts_total f more xs in (
      λ c. elim (or_cases (same_fact f more) (list_any (same_fact f) xs) (sym after ∙ list_any-from_Contains laws f _ c)) [
        | inl e ↦ inr (fact_same f more e)
        | inr e ↦ inl (Contains-from_any (tells_apart exact_facts) f xs e)
      ],
      λ w. Contains-from_any (tells_apart exact_facts) f _ (after ∙ elim w [
        | inl c ↦ or_right _ _ (list_any-from_Contains laws f xs c)
        | inr e ↦ rw (e, fact_itself more) refl
      ]),
    )

-- after several more: those from before, and those
pub fact_in_fold : (xs ys : List Fact) (f : Fact) → Contains (fold (insert_key fact_cmp) xs ys) f ↔ (Contains ys f ⊎ Contains xs f)
fact_in_fold xs [] f = (λ c. inr c, λ w. elim w [ inl c ↦ absurd (contains_none f c) | inr c ↦ c ])
fact_in_fold xs (y ∷ ys) f =
    let one = fact_in_insert xs y f in
    let rest = fact_in_fold (insert_key fact_cmp xs y) ys f in (
      λ c. elim (rest.0 c) [
        | inl later ↦ inl (contains_later y f ys later)
        | inr first ↦ elim (one.0 first) [ inl old ↦ inr old | inr e ↦ inl (contains_first y f ys (sym e)) ]
      ],
      λ w. rest.1 (elim w [
        | inl c ↦ elim (contains_cases y f ys c) [ inl e ↦ inr (one.1 (inr (sym e))) | inr later ↦ inl later ]
        | inr old ↦ inr (one.1 (inl old))
      ]),
    )
