-- What follows where a board has the block of what is done appended, and all else stays.
use Rattle.std.proofs.Common.{◌≡◌, ℕ, ◌-◌, Bool, Option, None, List, length, arith, ap, sym, ◌∙◌}
use Rattle.ps_machine.specs.declared.inputs.Input.{Input}
use Rattle.ps_machine.specs.declared.journal.Event.{Event}
use Rattle.ps_machine.specs.declared.journal.Entry.{Entry}
use Rattle.ps_board.specs.declared.board.Shown.{Shown}
use Rattle.ps_board.specs.declared.whole.Parts.{Parts}
use Rattle.ps_board.specs.Board.{Appended, spare_after, with_done}
use Rattle.ps_board.specs.Parts.{Gains, spent, with_turn}
use Rattle.ps_board.proofs.Lent.{shown}

-- nothing is done
pub nothing-appended : (hand : ℕ) (what : Option Event) (b : Shown) → what ≡ None → Appended hand what b b
nothing-appended hand what b none =
    let same : b.spare ≡ b.spare - (length b.entries - length b.entries) = omega arith in
    ap (λ n. record b { spare = n }) same ∙ sym (ap (λ o. record b { entries = with_done b hand o; spare = spare_after b (with_done b hand o) }) none)

-- a parts has the block more, and then shows the states of the acts
pub appended-shown : (old mid new : Parts) (hand : ℕ) (what : Option Event) (grants : List (Option ℕ)) (halted : Bool) → new.input ≡ mid.input → new.entries.items ≡ mid.entries.items
    → new.spare ≡ mid.spare → Gains hand what old mid → Appended hand what (shown old grants halted) (shown new grants halted)
appended-shown old mid new hand what grants halted input entries spare did =
    ap (λ (i : Input). record { input = i; entries = new.entries.items; grants = grants; halted = halted; spare = new.spare }) (input ∙ did.input)
    ∙ ap (λ (xs : List Entry). record { input = old.input; entries = xs; grants = grants; halted = halted; spare = new.spare }) (entries ∙ did.entries)
    ∙ ap (λ (n : ℕ). record { input = old.input; entries = with_turn old hand what; grants = grants; halted = halted; spare = n })
    (spare ∙ did.spare ∙ ap (spent old.spare old.entries.items) did.entries)
