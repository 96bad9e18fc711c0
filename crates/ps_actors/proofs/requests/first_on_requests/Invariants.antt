use Rattle.std.proofs.Common.{◌≡◌, ◌<◌, ℕ, None, List}
use Rattle.ps_machine.specs.declared.inputs.Input.{Input}
use Rattle.ps_machine.specs.declared.journal.Entry.{Entry}
use Rattle.ps_actors.specs.Ticks.{on_request}
use Rattle.ps_actors.specs.Turns.{first_legal, IsOpen}
use Rattle.ps_actors.proofs.requests.first_on_requests.Given as goal

abbrev pub invariant-loop-r : goal.invariant-loop-r
invariant-loop-r l = (i : Input) (es : List Entry) → IsOpen i es l.state → (k : ℕ) → k < l.r → first_legal i es (on_request l.about es k) ≡ None
