-- The slots that a seat's token holds.
use Rattle.std.proofs.Common.{◌≡◌, ℕ, true, false, List, [], ◌∷◌, sym, ap, ◌∙◌}
use Rattle.std.specs.Prelude.{Option, Some, None, Bool}
use Rattle.atomic_table.specs.Table.{Me, rest}
use Rattle.ps_turn.specs.Seats.{slots_of}
use Rattle.ps_turn.specs.declared.view.View.{View}

module _ {X : Type 0} where
  -- a token with the turn holds the empty slot and no other
  pub rest_of_holder : (slots : List (ℕ × Option X)) (holds : Bool) → slots ≡ slots_of holds → holds ≡ true → rest slots ≡ []
  rest_of_holder slots holds e h = ap rest (e ∙ ap (λ b. slots_of {X = X} b) h)

  -- a token without the turn holds none
  pub free_token : (me : Me (Option X) View) → me.1 ≡ slots_of me.0.holds → me.0.holds ≡ false → me ≡ (me.0, [])
  free_token me e h = ap (λ (slots : List (ℕ × Option X)). (me.0, slots)) (e ∙ ap (λ b. slots_of {X = X} b) h)

  -- with a value in the slot
  pub filled_token : (me new : Me (Option X) View) (x : X) → new ≡ (me.0, (0, Some x) ∷ rest me.1) → me.1 ≡ slots_of me.0.holds → me.0.holds ≡ true → new ≡ (me.0, (0, Some x) ∷ [])
  filled_token me new x e s h = e ∙ ap (λ (slots : List (ℕ × Option X)). (me.0, (0, Some x) ∷ slots)) (rest_of_holder me.1 me.0.holds s h)

  -- a token that holds one slot holds it first
  pub one_slot : (slots : List (ℕ × Option X)) (y : Option X) → slots ≡ (0, y) ∷ [] → slots ≡ (0, y) ∷ rest slots
  one_slot slots y e = e ∙ ap (λ (s : List (ℕ × Option X)). (0, y) ∷ rest s) (sym e)

  -- the first seat's token, once it has the slot and the first value is in it
  pub begun_token : (me begun new : Me (Option X) View) (x : X) → begun ≡ (record me.0 { opening = false }, (0, None) ∷ []) → new ≡ (begun.0, (0, Some x) ∷ rest begun.1)
      → new ≡ (record me.0 { opening = false }, (0, Some x) ∷ [])
  begun_token me begun new x b n = n ∙ ap (λ (m : Me (Option X) View). (m.0, (0, Some x) ∷ rest m.1)) b
