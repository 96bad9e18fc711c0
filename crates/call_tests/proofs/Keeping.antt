-- What a turn leaves of who asked the solver.
use Rattle.std.proofs.Common.{◌≡◌, ℕ, Option, Some, None, List, ◌∷◌, ◌++◌, take, ap, sym, ◌∙◌, subst}
use Rattle.ps_machine.specs.declared.inputs.Input.{Input}
use Rattle.ps_machine.specs.declared.journal.Event.{Event}
use Rattle.ps_machine.specs.declared.journal.Entry.{Entry}
use Rattle.ps_rules.specs.History.{forced}
use Rattle.ps_rules.specs.Known.{know}
use Rattle.ps_stale_plan_laws.specs.Asked.{WasAsked}
use Rattle.ps_stale_plan_laws.proofs.Counted.{asked_for_good, known_then}
use Rattle.ps_board.specs.Board.{Appended}
use Rattle.ps_board.specs.declared.board.Shown.{Shown}
use Rattle.call_tests.specs.Asked.{KeepsAsked}

-- entries that came after
keeps-more : (b new : Shown) (more : List Entry) → new.input ≡ b.input → new.entries ≡ b.entries ++ more → KeepsAsked b new
keeps-more b new more input grown at was = (
  subst (λ i. WasAsked i new.entries at) (sym input) (subst (λ es. WasAsked b.input es at) (sym grown) (asked_for_good b.input b.entries more at was)),
  ap (λ i. know i (take at new.entries)) input ∙ ap (λ es. know b.input (take at es)) grown ∙ known_then b.input b.entries more at was,
)

-- nothing came
keeps-same : (b new : Shown) → new.input ≡ b.input → new.entries ≡ b.entries → KeepsAsked b new
keeps-same b new input same at was = (
  subst (λ i. WasAsked i new.entries at) (sym input) (subst (λ es. WasAsked b.input es at) (sym same) was),
  ap (λ i. know i (take at new.entries)) input ∙ ap (λ es. know b.input (take at es)) same,
)

pub keeps : (b new : Shown) (hand : ℕ) (done : Option Event) → Appended hand done b new → KeepsAsked b new
keeps b new hand None did = keeps-same b new (ap (λ (s : Shown). s.input) did) (ap (λ (s : Shown). s.entries) did)
keeps b new hand (Some e) did =
    let entry : Entry = record { hand = hand; what = e } in
    keeps-more b new (entry ∷ forced b.input b.entries entry) (ap (λ (s : Shown). s.input) did) (ap (λ (s : Shown). s.entries) did)
