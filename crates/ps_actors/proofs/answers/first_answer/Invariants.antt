use Rattle.std.proofs.Common.{◌≡◌, ◌<◌, ℕ, None, List}
use Rattle.ps_machine.specs.declared.journal.Entry.{Entry}
use Rattle.ps_actors.specs.Heard.{HasHeard}
use Rattle.ps_actors.specs.Turns.{answers_on, first_legal, IsOpen}
use Rattle.ps_actors.proofs.answers.first_answer.Given as goal

abbrev pub invariant-loop-r : goal.invariant-loop-r
invariant-loop-r l =
    (es : List Entry) → IsOpen l.input es l.state → HasHeard l.name l.upto es → (k : ℕ) → k < l.r → first_legal l.input es (answers_on l.name k) ≡ None
