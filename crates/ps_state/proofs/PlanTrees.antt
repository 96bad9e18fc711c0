-- The tree of the plan, by what is kept.
use Rattle.std.proofs.Common.{◌≡◌, ℕ, List, filter, length, map, ap, sym, ◌∙◌}
use Rattle.std.specs.List.{range_with_len}
use Rattle.std.proofs.lemmas.List.FromFn.{fill_by_all, length-map-range_with_len}
use Rattle.ps_machine.specs.declared.inputs.Input.{Input}
use Rattle.ps_machine.specs.declared.journal.Entry.{Entry}
use Rattle.ps_action.specs.Arcs.{arcs_of}
use Rattle.ps_action.specs.Trees.{TreeView, waits_for, waits_of}
use Rattle.ps_action.specs.declared.states.ActState.TheVariants.{Waiting}
use Rattle.ps_arcs.proofs.Listed.{arcs_are_listed}
use Rattle.ps_rules.specs.Journal.{tree_of}
use Rattle.ps_rules.specs.Known.{grounds}
use Rattle.ps_rules.specs.Runs.{plan, state}
use Rattle.ps_state.specs.State.{Stands}
use Rattle.ps_state.specs.declared.state.State.{State}

module _ (i : Input) (es : List Entry) (p : State) (s : Stands i es p) where
  -- what each act waits for
  waits-are : waits_of p.arcs ≡ (tree_of i es).waits
  waits-are =
      ap waits_of (λ t. record { acts = s.acts t; pairs = (s.arcs ∙ ap arcs_of s.grounds) t })
      ∙ (λ t. map (λ j. filter (λ k. arcs_are_listed (grounds i.domain (plan es)) k j t) (range_with_len 0 j)) (range_with_len 0 (length (plan es))))

  -- as many states as acts
  pub many-states : length p.ledger.acts.states.items ≡ length (plan es)
  many-states = s.told.acts.many ∙ sym (ap length s.told.acts.acts)

  -- the states of the acts
  states-are : p.ledger.acts.states.items ≡ (tree_of i es).states
  states-are =
      fill_by_all (λ j. state j es) p.ledger.acts.states.items (length (plan es)) Waiting many-states (λ j h. sym (s.told.acts.states j))

  -- a tree of these waits and states is the tree of the plan
  pub tree-is : (tree : TreeView) → tree.waits ≡ waits_of p.arcs → tree.states ≡ p.ledger.acts.states.items → tree ≡ tree_of i es
  tree-is tree waits states = λ t. record { waits = (waits ∙ waits-are) t; states = (states ∙ states-are) t }

  -- as many states as acts that wait for others
  pub as-many-waits : length p.ledger.acts.states.items ≡ length p.tree.waits
  as-many-waits = many-states ∙ sym (ap length s.tree ∙ length-map-range_with_len (waits_for p.arcs.pairs) 0 p.arcs.acts ∙ s.acts)
