-- States that tie in their order are the same.
use Rattle.std.proofs.Common.{◌≡◌, Bool, true, false, ◌||◌, List, [], ◌∷◌, refl, ◌∙◌}
use Rattle.std.specs.Cmp.{IsTotalOrder, both_tied, on_total, then_total}
use Rattle.std.specs.Cmp.Lexicographic.{slice_cmp, lists_ties, lists_total}
use Rattle.std.specs.FinMap.{slice_cmp-IsAntisymmetric}
use Rattle.std.proofs.lemmas.Cmp.{eq_by_cmp_equiv}
use Rattle.std.proofs.lemmas.List.Folds.{list_any-append}
use Rattle.std.proofs.lemmas.Map.Lookups.{CmpEqualImpliesEq, exact_pairs}
use Rattle.std.proofs.lemmas.Map.Views.{tells_apart}
use Rattle.ps_world.specs.Facts.{fact_cmp}
use Rattle.ps_world.specs.declared.known.Knowledge.{Knowledge}
use Rattle.ps_action.specs.Search.{same_known}
use Rattle.ps_action.proofs.Facts.{exact_facts}
use Rattle.ps_ground.specs.Orders.{facts_total}
use Rattle.ps_solve.specs.Orders.{exact_values, value_cmp, values_cmp, values_total}
use Rattle.ps_ground.specs.States.{State, at}
use Rattle.ps_solve.specs.Nodes.{is_met, same_state, state_cmp, with_state}

pub states_total : IsTotalOrder state_cmp
states_total = then_total (on_total (λ s. s.facts) (lists_total facts_total)) (on_total (λ s. s.values) values_total)

exact_states : CmpEqualImpliesEq state_cmp
exact_states s t e =
    let same = exact_pairs (slice_cmp fact_cmp) values_cmp (slice_cmp-IsAntisymmetric exact_facts) exact_values (s.facts, s.values) (t.facts, t.values) e in
    λ i. record { facts = (same i).0; values = (same i).1 }

pub state_same : (s t : State) → same_state s t ≡ true → s ≡ t
state_same s t e = tells_apart exact_states s t e

pub state_itself : (s : State) → same_state s s ≡ true
state_itself s = (eq_by_cmp_equiv states_total).refl s

or_last : (a b : Bool) → (a || (b || false)) ≡ (b || a)
or_last true true = refl
or_last true false = refl
or_last false true = refl
or_last false false = refl

-- one more state that is met
pub met_more : (s t : State) (seen : List State) → is_met (with_state seen t) s ≡ (same_state s t || is_met seen s)
met_more s t seen = list_any-append (same_state s) seen (t ∷ []) ∙ or_last (is_met seen s) (same_state s t)

-- to lead to the same is to be the same state
pub same_known-at : (k : Knowledge) (s t : State) → same_known (at k s) (at k t) ≡ same_state s t
same_known-at k s t =
    both_tied _ _ _ _ (lists_ties fact_cmp (λ f g. refl) s.facts t.facts) (lists_ties value_cmp (λ v w. both_tied _ _ _ _ refl refl) s.values t.values)
