use Rattle.std.proofs.Common.{◌≡◌, ◌<◌, ℕ, None, List}
use Rattle.ps_machine.specs.declared.journal.Entry.{Entry}
use Rattle.ps_rules.specs.Members.{next_unit}
use Rattle.ps_actors.specs.Turns.{IsOpen}
use Rattle.ps_actors.proofs.work.work_engaged.Given as goal

abbrev pub invariant-loop-r : goal.invariant-loop-r
invariant-loop-r l = (es : List Entry) → IsOpen l.input es l.state → (k : ℕ) → k < l.r → next_unit l.input k l.name es ≡ None
