-- When a value that is set changes what is known.
use Rattle.std.proofs.Common.{◌≡◌, ◌≢◌, ◌↔◌, Bool, true, false, not, cond, List, Option, Some, refl, ap, sym, ◌∙◌, subst}
use Rattle.std.specs.BTreeMap.{insert_entry}
use Rattle.std.specs.List.Sorted.{IsStrictlySortedBy}
use Rattle.std.specs.Map.{lookup, keys_of}
use Rattle.std.specs.Ordering.{eq_by_cmp}
use Rattle.std.proofs.lemmas.Cmp.{eq_by_cmp_equiv}
use Rattle.ps_world.specs.Facts.{fact_cmp}
use Rattle.ps_world.specs.Knowledge.{same_fact}
use Rattle.ps_world.specs.declared.numbers.Num.{Num}
use Rattle.ps_world.specs.declared.facts.Fact.{Fact}
use Rattle.ps_world.specs.declared.known.Knowledge.{Knowledge}
use Rattle.ps_action.proofs.Facts.{facts_total}
use Rattle.ps_problem.proofs.Filters.{insert_entry-same}
use Rattle.ps_action.proofs.Keys.{lookup-insert_entry}

-- a value that is set is found
pub set_is_found : (f : Fact) (x : Num) (es : List (Fact × Num)) → lookup (same_fact f) (insert_entry fact_cmp es f x) ≡ Some x
set_is_found f x es =
    let itself : eq_by_cmp fact_cmp f f ≡ true = (eq_by_cmp_equiv facts_total).refl f in
    lookup-insert_entry facts_total f f x es ∙ ap (λ b. cond b (Some x) (lookup (same_fact f) es)) itself

module _ (at : Knowledge) (f : Fact) (x : Num) (values : List (Fact × Num)) (held : Option Num)
    (sorted : IsStrictlySortedBy fact_cmp (keys_of at.values)) (holds : held ≡ lookup (same_fact f) at.values)
    (made : values ≡ insert_entry fact_cmp at.values f x) where
  found_before : record at { values = values } ≡ at → held ≡ Some x
  found_before e =
      let same : values ≡ at.values = ap (λ (k : Knowledge). k.values) e in
      holds ∙ ap (lookup (same_fact f)) (sym same ∙ made) ∙ set_is_found f x at.values

  same_after : held ≡ Some x → record at { values = values } ≡ at
  same_after e =
      let same : values ≡ at.values = made ∙ insert_entry-same facts_total f x at.values sorted (sym holds ∙ e) in
      λ i. record at { values = same i }

  changes_at : (b : Bool) → (b ≡ true) ↔ (held ≡ Some x) → (not b ≡ true) ↔ (record at { values = values } ≢ at)
  changes_at true i = (λ t. absurd (cc), λ d. absurd (d (same_after (i.0 refl))))
  changes_at false i = (λ t e. let h : false ≡ true = i.1 (found_before e) in cc, λ d. refl)

  -- a value that is set changes what is known unless it was held before
  pub set_changes : (k : Knowledge) (b : Bool) → at ≡ k → (b ≡ true) ↔ (held ≡ Some x) → (not b ≡ true) ↔ (record at { values = values } ≢ k)
  set_changes k b is_k i = subst (λ y. (not b ≡ true) ↔ (record at { values = values } ≢ y)) is_k (changes_at b i)
