-- Changes of facts and values that are made, or taken back.
use Rattle.std.proofs.Common.{◌≡◌, ◌≢◌, ◌↔◌, ℕ, Bool, true, false, List, [], ◌++◌, Option, filter_map, fold, take, refl, ap, sym, ◌∙◌, subst, All}
use Rattle.std.specs.List.Sorted.{IsStrictlySortedBy}
use Rattle.std.specs.Map.{lookup, keys_of}
use Rattle.std.specs.BTreeSet.{insert_key}
use Rattle.ps_world.specs.Facts.{fact_cmp}
use Rattle.ps_world.specs.Knowledge.{same_fact}
use Rattle.ps_world.specs.declared.numbers.Num.{Num}
use Rattle.ps_world.specs.declared.facts.Fact.{Fact}
use Rattle.ps_world.specs.declared.actions.Effect.{Effect}
use Rattle.ps_world.specs.declared.known.Knowledge.{Knowledge}
use Rattle.ps_action.specs.Effects.{added_by, made, with_value}
use Rattle.ps_problem.specs.Patches.{facts_after, values_after}
use Rattle.ps_problem.specs.Puts.{deleted_by, dropped_in, fresh_in, lost_in, held_in, without_one, without_term, with_held}
use Rattle.ps_problem.proofs.PutFacts.{facts_put, facts_undone, facts_kept, made_facts}
use Rattle.ps_problem.proofs.PutValues.{filter_none, values_put, values_undone, values_kept, values_held}

module _ (k : Knowledge) (adds deletes : List Fact) (ready : List (Fact × Num)) (gone fresh lost dropped : List Fact) (held : List (Fact × Option Num))
    (is_fresh : fresh ≡ fresh_in k.facts adds) (is_lost : lost ≡ lost_in k.facts adds deletes) (is_held : held ≡ held_in k.values (keys_of ready ++ gone))
    (is_dropped : dropped ≡ dropped_in ready gone)
    (facts_rise : IsStrictlySortedBy fact_cmp k.facts) (values_rise : IsStrictlySortedBy fact_cmp (keys_of k.values)) where
  -- what is known where memory doesn't run out
  abbrev after : Knowledge
  after = record k { facts = fold without_one (fold (insert_key fact_cmp) k.facts fresh) lost; values = fold without_term (fold with_value k.values ready) dropped }

  -- it is what the definition says
  abbrev changed : Knowledge
  changed = record k { facts = facts_after k.facts adds deletes; values = values_after k.values ready gone }

  pub put_made : after ≡ changed
  put_made =
      let facts : fold without_one (fold (insert_key fact_cmp) k.facts fresh) lost ≡ facts_after k.facts adds deletes = rw (is_fresh, is_lost) (facts_put k.facts adds deletes facts_rise) in
      let values : fold without_term (fold with_value k.values ready) dropped ≡ values_after k.values ready gone = rw is_dropped (values_put k.values ready gone values_rise) in
      λ i. record k { facts = facts i; values = values i }

  -- where memory runs out, everything is as it was
  pub put_undone : (j m : ℕ) → record k { facts = fold without_one (fold (insert_key fact_cmp) k.facts (take j fresh)) fresh; values = fold with_held (fold with_value k.values (take m ready)) held } ≡ k
  put_undone j m =
      let facts : fold without_one (fold (insert_key fact_cmp) k.facts (take j fresh)) fresh ≡ k.facts = rw is_fresh (facts_undone k.facts adds deletes facts_rise j) in
      let values : fold with_held (fold with_value k.values (take m ready)) held ≡ k.values = rw is_held (values_undone k.values ready gone m values_rise) in
      λ i. record k { facts = facts i; values = values i }

  -- the knowledge is the same exactly where no fact comes, none goes and each term is worth what it was
  abbrev Same : Type 0
  Same = (fresh ≡ []) × (lost ≡ []) × All (λ h. lookup (same_fact h.0) (values_after k.values ready gone) ≡ h.1) held

  same_from : Same → changed ≡ k
  same_from w =
      let facts : facts_after k.facts adds deletes ≡ k.facts = sym (ap (λ (x : Knowledge). x.facts) put_made) ∙ rw (w.0, w.1) refl in
      let values : values_after k.values ready gone ≡ k.values = values_kept k.values ready gone values_rise (rw is_held at w.2) in
      λ i. record k { facts = facts i; values = values i }

  to_same : changed ≡ k → Same
  to_same e =
      let none = facts_kept k.facts adds deletes facts_rise (ap (λ (x : Knowledge). x.facts) e) in
      (is_fresh ∙ none.0, is_lost ∙ none.1, rw is_held (values_held k.values ready gone (ap (λ (x : Knowledge). x.values) e)))

  changes : (b : Bool) → (b ≡ false) ↔ Same → (b ≡ true) ↔ (changed ≢ k)
  changes true i = (λ t e. let h : true ≡ false = i.1 (to_same e) in cc, λ n. refl)
  changes false i = (λ t. absurd (cc), λ n. absurd (n (same_from (i.0 refl))))

  -- the answer says whether anything changed
  pub put_changes : (new : Knowledge) (b : Bool) → new ≡ after → (b ≡ false) ↔ ((fresh ≡ []) × (lost ≡ []) × All (λ h. lookup (same_fact h.0) new.values ≡ h.1) held) → (b ≡ true) ↔ (new ≢ k)
  put_changes new b e i = subst (λ (x : Knowledge). (b ≡ false) ↔ ((fresh ≡ []) × (lost ≡ []) × All (λ h. lookup (same_fact h.0) x.values ≡ h.1) held) → (b ≡ true) ↔ (x ≢ k)) (sym (e ∙ put_made)) (changes b) i

-- what effects make is such a change
pub made_is : (k : Knowledge) (es : List Effect) (ready : List (Fact × Num)) → record k { facts = facts_after k.facts (filter_map added_by es) (filter_map deleted_by es); values = values_after k.values ready [] } ≡ made k es ready
made_is k es ready =
    let facts = made_facts k.facts es in
    let values : values_after k.values ready [] ≡ fold with_value k.values ready = ap (λ vs. fold with_value vs ready) (filter_none k.values) in
    λ i. record k { facts = facts i; values = values i }
