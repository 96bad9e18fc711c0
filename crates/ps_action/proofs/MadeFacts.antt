-- Which facts are there after effects.
use Rattle.std.proofs.Common.{◌≡◌, ◌↔◌, ◌⊎◌, Bool, true, false, not, List, [], ◌∷◌, filter, filter_map, fold, inl, inr, refl, ap, sym, ◌∙◌}
use Rattle.std.specs.List.{Contains, list_any, cons_option}
use Rattle.std.specs.List.Sorted.{IsStrictlySortedBy}
use Rattle.std.specs.BTreeSet.{insert_key}
use Rattle.std.proofs.lemmas.List.Kept.{IsStrictlySortedBy-filter}
use Rattle.std.proofs.lemmas.Bool.{not-true, or_right}
use Rattle.ps_world.specs.Facts.{fact_cmp}
use Rattle.ps_world.specs.Knowledge.{ground, same_fact}
use Rattle.ps_world.specs.declared.facts.Fact.{Fact}
use Rattle.ps_world.specs.declared.actions.Effect.{Effect}
use Rattle.ps_world.specs.declared.actions.Effect.TheVariants.{Add, Delete, Number}
use Rattle.ps_action.specs.Effects.{added_by, deletes}
use Rattle.ps_action.specs.Laws.{IsAdded, IsDeleted}
use Rattle.ps_action.proofs.Facts.{facts_total}
use Rattle.ps_action.proofs.Keys.{sorted-insert_key}
use Rattle.ps_action.proofs.Contained.{contains_cases, contains_first, contains_later, contains_none, or_cases, fact_same, fact_itself, fact_in_filter, fact_in_fold}

added_later : (e : Effect) (es : List Effect) (f : Fact) → IsAdded es f → IsAdded (e ∷ es) f
added_later e es f a = (a.0, contains_later e (Add a.0) es a.1, a.2)

deleted_later : (e : Effect) (es : List Effect) (f : Fact) → IsDeleted es f → IsDeleted (e ∷ es) f
deleted_later e es f a = (a.0, contains_later e (Delete a.0) es a.1, a.2)

-- ---- what is added

listed_at : (e : Effect) (es : List Effect) (f : Fact) → (Contains (filter_map added_by es) f ↔ IsAdded es f) → Contains (cons_option (added_by e) (filter_map added_by es)) f ↔ IsAdded (e ∷ es) f
listed_at (Add l) es f rest = (
  λ c. elim (contains_cases (ground l) f (filter_map added_by es) c) [
    | inl s ↦ (l, contains_first (Add l) (Add l) es refl, s)
    | inr later ↦ added_later (Add l) es f (rest.0 later)
  ],
  λ a. elim (contains_cases (Add l) (Add a.0) es a.1) [
    | inl s ↦ let same : l ≡ a.0 = cc in contains_first (ground l) f (filter_map added_by es) (ap ground same ∙ a.2)
    | inr later ↦ contains_later (ground l) f (filter_map added_by es) (rest.1 (a.0, later, a.2))
  ],
)
listed_at (Delete l) es f rest = (
  λ c. added_later (Delete l) es f (rest.0 c),
  λ a. elim (contains_cases (Delete l) (Add a.0) es a.1) [ inl s ↦ absurd (cc) | inr later ↦ rest.1 (a.0, later, a.2) ],
)
listed_at (Number how l x) es f rest = (
  λ c. added_later (Number how l x) es f (rest.0 c),
  λ a. elim (contains_cases (Number how l x) (Add a.0) es a.1) [ inl s ↦ absurd (cc) | inr later ↦ rest.1 (a.0, later, a.2) ],
)

listed : (es : List Effect) (f : Fact) → Contains (filter_map added_by es) f ↔ IsAdded es f
listed [] f = (λ c. absurd (contains_none f c), λ a. absurd (contains_none (Add a.0) a.1))
listed (e ∷ es) f = listed_at e es f (listed es f)

-- ---- what is deleted

deletes_so : (f : Fact) (e : Effect) → deletes f e ≡ true → (es : List Effect) → IsDeleted (e ∷ es) f
deletes_so f (Add l) s es = absurd (cc)
deletes_so f (Delete l) s es = (l, contains_first (Delete l) (Delete l) es refl, sym (fact_same f (ground l) s))
deletes_so f (Number how l x) s es = absurd (cc)

deleted : (f : Fact) (es : List Effect) → list_any (deletes f) es ≡ true → IsDeleted es f
deleted f [] s = absurd (cc)
deleted f (e ∷ es) s =
    elim (or_cases (deletes f e) (list_any (deletes f) es) s) [ inl h ↦ deletes_so f e h es | inr h ↦ deleted_later e es f (deleted f es h) ]

tested : (f : Fact) (es : List Effect) → IsDeleted es f → list_any (deletes f) es ≡ true
tested f [] a = absurd (contains_none (Delete a.0) a.1)
tested f (e ∷ es) a =
    elim (contains_cases e (Delete a.0) es a.1) [
      | inl s ↦
          let here : deletes f e ≡ true = ap (deletes f) s ∙ ap (same_fact f) a.2 ∙ fact_itself f in
          rw here refl
      | inr later ↦ or_right (deletes f e) (list_any (deletes f) es) (tested f es (a.0, later, a.2))
    ]

differs : {A : Type 0} (b : Bool) → (b ≡ true → A) → (¬ A) → not b ≡ true
differs true h n = absurd (n (h refl))
differs false h n = refl

pub not_deleted : (f : Fact) (es : List Effect) → (not (list_any (deletes f) es) ≡ true) ↔ (¬ (IsDeleted es f))
not_deleted f es = (
  λ s a. cc (not-true (list_any (deletes f) es) s, tested f es a),
  λ n. differs (list_any (deletes f) es) (deleted f es) n,
)

-- ---- both

pub facts_after : (es : List Effect) (facts : List Fact) (f : Fact) → Contains (fold (insert_key fact_cmp) (filter (λ g. not (list_any (deletes g) es)) facts) (filter_map added_by es)) f ↔ (IsAdded es f ⊎ (Contains facts f × (¬ (IsDeleted es f))))
facts_after es facts f =
    let keeps = λ (g : Fact). not (list_any (deletes g) es) in
    let all = fact_in_fold (filter keeps facts) (filter_map added_by es) f in
    let kept = fact_in_filter keeps facts f in
    let more = listed es f in
    let none = not_deleted f es in (
      λ c. elim (all.0 c) [
        | inl a ↦ inl (more.0 a)
        | inr old ↦ let w = kept.0 old in inr (w.0, none.0 w.1)
      ],
      λ w. all.1 (elim w [
        | inl a ↦ inl (more.1 a)
        | inr old ↦ inr (kept.1 (old.0, none.1 old.1))
      ]),
    )

pub sorted-fold : (xs ys : List Fact) → IsStrictlySortedBy fact_cmp xs → IsStrictlySortedBy fact_cmp (fold (insert_key fact_cmp) xs ys)
sorted-fold xs [] s = s
sorted-fold xs (y ∷ ys) s = sorted-fold (insert_key fact_cmp xs y) ys (sorted-insert_key facts_total y xs s)

pub facts_rise : (es : List Effect) (facts : List Fact) → IsStrictlySortedBy fact_cmp facts → IsStrictlySortedBy fact_cmp (fold (insert_key fact_cmp) (filter (λ g. not (list_any (deletes g) es)) facts) (filter_map added_by es))
facts_rise es facts s =
    let keeps = λ (g : Fact). not (list_any (deletes g) es) in
    sorted-fold (filter keeps facts) (filter_map added_by es) (IsStrictlySortedBy-filter fact_cmp keeps facts s)
