use Rattle.std.proofs.Common.{◌≡◌, ◌<◌, ℕ, None, List}
use Rattle.ps_machine.specs.declared.journal.Entry.{Entry}
use Rattle.ps_actors.specs.Ticks.{on_act}
use Rattle.ps_actors.specs.Turns.{first_legal, IsOpen}
use Rattle.ps_actors.proofs.acts.first_on_acts.Given as goal

abbrev pub invariant-loop-act : goal.invariant-loop-act
invariant-loop-act l = (es : List Entry) → IsOpen l.input es l.state → (k : ℕ) → k < l.act → first_legal l.input es (on_act l.about es k) ≡ None
