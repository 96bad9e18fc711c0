-- Lists of entries by hand, and lists read by `get_elem?`.
use Rattle.std.proofs.Common.{◌≡◌, ◌≢◌, ℕ, length, ◌<◌, ◌≤◌, List, [], ◌∷◌, ◌++◌, refl, sym, ap, ◌∙◌, arith, append_assoc}
use Rattle.std.specs.Prelude.{◌==◌}
use mathlib.Core.Option.{some}
use lib.ListN.{get_elem?}
use Rattle.std.specs.List.{All}
use Rattle.std.proofs.lemmas.List.Elements.{All-head, All-tail, All-append, All-weaker, filter-append}
use Rattle.std.proofs.lemmas.List.{append-nil}
use Rattle.ps_machine.specs.declared.journal.Entry.{Entry}
use Rattle.ps_turn.specs.Hands.{of_hand, IsBeginning, GoesOnByHands}

-- entries of one hand have none of another
none_of_hand : (hand other : ℕ) (es : List Entry) → other ≢ hand → All (λ e. e.hand ≡ hand) es → of_hand other es ≡ []
none_of_hand hand other [] apart all = refl
none_of_hand hand other (e ∷ es) apart all =
    let here : e.hand ≡ hand = All-head (λ (e : Entry). e.hand ≡ hand) e es all in
    let rest = none_of_hand hand other es apart (All-tail (λ (e : Entry). e.hand ≡ hand) e es all) in
    grind (arith, rest, here, apart)

pub of_hand-others : (hand other : ℕ) (es more : List Entry) → other ≢ hand → All (λ e. e.hand ≡ hand) more → of_hand other (es ++ more) ≡ of_hand other es
of_hand-others hand other es more apart all =
    filter-append (λ (e : Entry). e.hand == other) es more ∙ (ap (λ m. of_hand other es ++ m) (none_of_hand hand other more apart all) ∙ append-nil (of_hand other es))

pub begins_still : (front es more : List Entry) → IsBeginning front es → IsBeginning front (es ++ more)
begins_still front es more b = (b.0 ++ more, ap (λ s. s ++ more) b.1 ∙ append_assoc front b.0 more)

pub is_beginning_of_itself : (es : List Entry) → IsBeginning es es
is_beginning_of_itself es = ([], sym (append-nil es))

-- what one of the hands adds keeps the list one of these hands
pub goes_on_still : (hand last : ℕ) (base es more : List Entry) → 0 < hand → hand ≤ last → GoesOnByHands last base es → All (λ e. e.hand ≡ hand) more → GoesOnByHands last base (es ++ more)
goes_on_still hand last base es more real dealt goes all = (
  goes.0 ++ more,
  ap (λ s. s ++ more) goes.1 ∙ append_assoc base goes.0 more,
  All-append (λ (e : Entry). (0 < e.hand) × (e.hand ≤ last)) goes.0 more goes.2 (All-weaker (λ (e : Entry). e.hand ≡ hand) (λ (e : Entry). (0 < e.hand) × (e.hand ≤ last)) (λ e is. (omega arith, omega arith)) more all),
)

pub goes_on_by_more : (last further : ℕ) (base es : List Entry) → last ≤ further → GoesOnByHands last base es → GoesOnByHands further base es
goes_on_by_more last further base es le goes = (
  goes.0,
  goes.1,
  All-weaker (λ (e : Entry). (0 < e.hand) × (e.hand ≤ last)) (λ (e : Entry). (0 < e.hand) × (e.hand ≤ further)) (λ e is. (is.0, omega arith)) goes.0 goes.2,
)

-- the last element stands at the end
pub at_end : {A : Type 0} (l : List A) (a : A) → get_elem? (l ++ a ∷ []) (length l) ≡ some a
at_end [] a = refl
at_end (x ∷ xs) a = at_end xs a
