use Rattle.std.proofs.Common.{take, List}
use Rattle.ps_machine.specs.declared.inputs.Input.{Input}
use Rattle.ps_machine.specs.declared.journal.Entry.{Entry}
use Rattle.ps_actors.specs.Ticks.{first_of, IsEarliest}
use Rattle.ps_actors.specs.Turns.{IsOpen}
use Rattle.ps_actors.proofs.rejects.first_rejected.Given as goal

abbrev pub invariant-loop-at : goal.invariant-loop-at
invariant-loop-at l = (i : Input) (es : List Entry) → IsOpen i es l.state → IsEarliest (first_of i es (take l.at l.state.ledger.offers.all.items)) l.best
