-- What an observer does in its turn is legal.
use Rattle.std.proofs.Common.{◌≡◌, ℕ, ◌&&◌, ◌==◌, nat_le, true, false, if◌then◌else◌, Option, Some, None, IsTrue, List, refl, ap, ◌∙◌}
use Rattle.ps_world.specs.Knowledge.{edited}
use Rattle.ps_world.specs.declared.names.Name.{Name}
use Rattle.ps_world.specs.declared.edits.Edit.{Edit}
use Rattle.ps_machine.specs.declared.inputs.Input.{Input}
use Rattle.ps_machine.specs.declared.journal.By.TheVariants as by
use Rattle.ps_machine.specs.declared.journal.Refusal.{Refusal}
use Rattle.ps_machine.specs.declared.journal.Entry.{Entry}
use Rattle.ps_rules.specs.Runs.{is_running}
use Rattle.ps_rules.specs.Known.{know}
use Rattle.ps_rules.specs.Lines.{answers_line, edit_refusal}
use Rattle.ps_rules.specs.Members.{next_seen}
use Rattle.ps_rules.specs.Legal.{has_hand, is_legal}
use Rattle.ps_rules.specs.Choices.{edit_event, edit_outcome}
use Rattle.ps_rules.proofs.Choosing.{legal-live, observer-edit}

own-outcome : (o : Name) (edit : Edit) (why : Option Refusal) → answers_line (edit_outcome (by.Observer o) edit why) ≡ false
own-outcome o edit None = refl
own-outcome o edit (Some w) = refl

pub observer-legal : (i : Input) (es : List Entry) (o : Name) (edit : Edit) → is_running es ≡ true → next_seen i o es ≡ Some edit
    → IsTrue (is_legal i es (edit_event i es (by.Observer o) edit))
observer-legal i es o edit live next =
    legal-live i es (edit_event i es (by.Observer o) edit) live (own-outcome o edit (edit_refusal (edited i.domain (know i es) edit)))
    (observer-edit i es o edit next (edited i.domain (know i es) edit) refl)

-- and a worker may do it
pub observer-hand : (i : Input) (es : List Entry) (o : Name) (edit : Edit) (hand : ℕ) → IsTrue (nat_le 1 hand && nat_le hand 16)
    → IsTrue (has_hand (edit_event i es (by.Observer o) edit) hand)
observer-hand i es o edit hand h =
    ap (λ b. if b then hand == 0 else (nat_le 1 hand && nat_le hand 16)) (own-outcome o edit (edit_refusal (edited i.domain (know i es) edit))) ∙ h
