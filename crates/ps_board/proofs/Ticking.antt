-- What the ticker does may be put next.
use Rattle.std.proofs.Common.{◌≡◌, ℕ, ◌==◌, ◌&&◌, not, nat_le, true, false, None, if◌then◌else◌, IsTrue, List, ap, ◌∙◌}
use Rattle.std.proofs.lemmas.Bool.{and_parts}
use Rattle.ps_machine.specs.declared.inputs.Input.{Input}
use Rattle.ps_machine.specs.declared.journal.Event.{Event}
use Rattle.ps_machine.specs.declared.journal.Event.TheVariants as event
use Rattle.ps_machine.specs.declared.journal.Entry.{Entry}
use Rattle.ps_rules.specs.Legal.{has_hand, is_legal, row_allows, same_flag}
use Rattle.ps_rules.specs.Lines.{answers_line}
use Rattle.ps_rules.specs.Runs.{is_running, says_plan}
use Rattle.ps_rules.proofs.InOrder.{unanswering}
use Rattle.ps_state.specs.Awaiting.{MayBegin}
use Rattle.ps_state.specs.declared.state.State.{State}
use Rattle.ps_actors.specs.Turns.{IsOpen}
use Rattle.ps_board.specs.declared.whole.Parts.{Parts}
use Rattle.ps_board.specs.Parts.{BoardStands}

-- in an open run it is chosen from what a parts keeps
pub open-now : (c : Parts) → BoardStands c → is_running c.entries.items ≡ true → IsOpen c.input c.entries.items c.state
open-now c s live = record { sound = s.sound; history = s.history; kept = s.kept; live = live }

-- in an open run what may come answers no line, and so a worker may do it
pub tick-hand : (i : Input) (es : List Entry) (e : Event) (hand : ℕ) → is_running es ≡ true → IsTrue (is_legal i es e) → IsTrue (nat_le 1 hand && nat_le hand 16)
    → IsTrue (has_hand e hand)
tick-hand i es e hand live legal h =
    let own : answers_line e ≡ false = unanswering (answers_line e) (is_running es) live (and_parts (same_flag (answers_line e) (not (is_running es))) (row_allows i es e) legal).0 in
    ap (λ b. if b then hand == 0 else (nat_le 1 hand && nat_le hand 16)) own ∙ h

pub plan-less : (e : Event) (p : State) → says_plan e ≡ None → MayBegin e p
plan-less (event.Run for acts) p h = absurd (cc)
plan-less (event.Replan acts) p h = absurd (cc)
plan-less e p h = tt
