use Rattle.std.proofs.Common.{List}
use Rattle.ps_machine.specs.declared.inputs.Input.{Input}
use Rattle.ps_machine.specs.declared.journal.Entry.{Entry}
use Rattle.ps_state.specs.State.{Stands}
use Rattle.ps_actors.specs.Heard.{HasHeard}
use Rattle.ps_actors.proofs.Hearing.{HasAnsweredBelow}
use Rattle.ps_actors.proofs.heard.heard_upto.Given as goal

abbrev pub invariant-loop-r : goal.invariant-loop-r
invariant-loop-r l = (i : Input) (es : List Entry) → Stands i es l.state → HasHeard l.name l.from es → HasAnsweredBelow l.name l.r es
