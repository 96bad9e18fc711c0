-- What is known after effects.
use Rattle.std.proofs.Common.{◌≡◌, not, ◌&&◌, ◌||◌, List, [], ◌∷◌, filter, filter_map, fold, refl, ap, sym, ◌∙◌}
use Rattle.std.specs.List.{list_any}
use Rattle.std.specs.Map.{lookup}
use Rattle.std.specs.BTreeSet.{insert_key}
use Rattle.std.proofs.Math.Bool.{or_comm}
use Rattle.ps_world.specs.Facts.{fact_cmp}
use Rattle.ps_world.specs.Knowledge.{ground, same_fact}
use Rattle.ps_world.specs.declared.numbers.Num.{Num}
use Rattle.ps_world.specs.declared.facts.Fact.{Fact}
use Rattle.ps_world.specs.declared.actions.Effect.{Effect}
use Rattle.ps_world.specs.declared.actions.Effect.TheVariants.{Add, Delete, Number}
use Rattle.ps_action.specs.Effects.{added_by, deletes, with_value}
use Rattle.ps_action.proofs.Facts.{facts_total}
use Rattle.ps_action.proofs.Keys.{lookup-insert_entry}
use Rattle.ps_problem.proofs.PutFacts.{known, known-filter, known-inserted}
use Rattle.ps_expand.specs.Joining.{adds, value_after}

-- a fact is added where it is among the facts that are added
pub known_added : (f : Fact) (es : List Effect) → known f (filter_map added_by es) ≡ list_any (adds f) es
known_added f [] = refl
known_added f (Add l ∷ es) = ap (λ b. same_fact f (ground l) || b) (known_added f es)
known_added f (Delete l ∷ es) = known_added f es
known_added f (Number how l x ∷ es) = known_added f es

-- a fact is known after effects where one adds it, or where it was known and none deletes it
pub known_made : (f : Fact) (facts : List Fact) (es : List Effect) → known f (fold (insert_key fact_cmp) (filter (λ g. not (list_any (deletes g) es)) facts) (filter_map added_by es)) ≡ (list_any (adds f) es || (known f facts && not (list_any (deletes f) es)))
known_made f facts es =
    known-inserted f (filter (λ g. not (list_any (deletes g) es)) facts) (filter_map added_by es)
    ∙ or_comm (known f (filter (λ g. not (list_any (deletes g) es)) facts)) (known f (filter_map added_by es))
    ∙ (λ i. known_added f es i || known-filter f (λ g. not (list_any (deletes g) es)) facts i)

-- the value of a term after values are put in
pub value_put : (f : Fact) (vs ready : List (Fact × Num)) → value_after (lookup (same_fact f) vs) ready f ≡ lookup (same_fact f) (fold with_value vs ready)
value_put f vs [] = refl
value_put f vs (r ∷ rs) = ap (λ o. value_after o rs f) (sym (lookup-insert_entry facts_total f r.0 r.1 vs)) ∙ value_put f (with_value vs r) rs
