use Rattle.std.proofs.Common.{◌≡◌, Bool, true, false, List, [], ◌∷◌, ◌++◌, refl, sym, ◌∙◌}
use Rattle.std.specs.Prelude.{if◌then◌else◌}
use Rattle.std.proofs.lemmas.List.{append-nil}
use Rattle.std.proofs.lemmas.List.Elements.{All-nil, All-cons}
use Rattle.ps_machine.specs.declared.journal.Entry.{Entry}
use Rattle.ps_turn.specs.Hands.{GoesOnBy}
use Rattle.turn_tests.proofs.turns.Log.add_quit.Goals as goal

grows : (pushed : Bool) (added : Entry) (xs ys : List Entry) → ys ≡ (if pushed then (xs ++ added ∷ []) else xs) → GoesOnBy added.hand xs ys
grows true added xs ys e = (added ∷ [], e, All-cons (λ (x : Entry). x.hand ≡ added.hand) added [] refl (All-nil (λ (x : Entry). x.hand ≡ added.hand)))
grows false added xs ys e = ([], e ∙ sym (append-nil xs), All-nil (λ (x : Entry). x.hand ≡ added.hand))

pub returns-clause-grows : goal.returns-clause-grows
returns-clause-grows c = grows _ _ _ _ c.push.ensures.items
