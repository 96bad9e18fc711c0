-- Conditions that hold in every state may be left out.
use Rattle.std.proofs.Common.{◌≡◌, true, ◌&&◌, List, [], ◌∷◌, ◌++◌, option_map, option_and_then, refl, ap, sym, ◌∙◌}
use Rattle.ps_world.specs.Trees.{CondTree}
use Rattle.ps_world.specs.declared.domains.Domain.{Domain}
use Rattle.ps_world.specs.declared.known.Knowledge.{Knowledge}
use Rattle.ps_world.proofs.Truths.{and_assoc}
use Rattle.ps_action.specs.declared.acts.GroundAction.{GroundAction}
use Rattle.ps_action.specs.Truth.{all_true, is_true}
use Rattle.ps_ground.specs.States.{State, at, changed, stepped, where_so}
use Rattle.ps_ground.specs.Moves.{Node, move}

module _ (d : Domain) (l : Knowledge) where
  pub both_true : (xs ys : List CondTree) → all_true d l (xs ++ ys) ≡ (all_true d l xs && all_true d l ys)
  both_true [] ys = refl
  both_true (x ∷ xs) ys = ap (λ b. is_true d l x && b) (both_true xs ys) ∙ sym (and_assoc (is_true d l x) (all_true d l xs) (all_true d l ys))

  -- one that holds is left out
  pub left_out : (xs ys : List CondTree) (c : CondTree) → is_true d l c ≡ true → all_true d l (xs ++ ys) ≡ all_true d l (xs ++ c ∷ ys)
  left_out xs ys c e = both_true xs ys ∙ ap (λ b. all_true d l xs && (b && all_true d l ys)) (sym e) ∙ sym (both_true xs (c ∷ ys))

module _ (d : Domain) (k : Knowledge) where
  -- the same conditions in every state
  abbrev pub AlikeConds : List CondTree → List CondTree → Type 0
  AlikeConds xs ys = (s : State) → all_true d (at k s) xs ≡ all_true d (at k s) ys

  module _ (g h : GroundAction) (start : AlikeConds g.conditions.at_start h.conditions.at_start) (over : AlikeConds g.conditions.over_all h.conditions.over_all) (end : AlikeConds g.conditions.at_end h.conditions.at_end) (at_start : g.effects.at_start ≡ h.effects.at_start) (at_end : g.effects.at_end ≡ h.effects.at_end) where
    -- ground actions whose conditions hold in the same states lead to the same states
    pub alike_steps : (s : State) → stepped d k s g ≡ stepped d k s h
    alike_steps s =
        λ i. option_and_then (λ s. where_so (over s i) (where_so (end s i) (changed d k s (at_end i)))) (where_so (start s i) (changed d k s (at_start i)))

    -- and to the same nodes, where they are of the same act
    pub alike_moves : g.act ≡ h.act → (n : Node) → move d k n g ≡ move d k n h
    alike_moves act n = λ i. option_map (λ s. record { state = s; path = n.path ++ act i ∷ [] }) (alike_steps n.state i)
