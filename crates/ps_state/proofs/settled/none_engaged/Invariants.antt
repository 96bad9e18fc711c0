use Rattle.std.proofs.Common.{◌≡◌, List, drop}
use Rattle.ps_machine.specs.declared.journal.Entry.{Entry}
use Rattle.ps_ledger.specs.Ledger.{TellsAll}
use Rattle.ps_state.specs.Names.{none_engaged}
use Rattle.ps_state.proofs.settled.none_engaged.Given as goal

abbrev pub invariant-loop-name : goal.invariant-loop-name
invariant-loop-name l =
    (es : List Entry) → TellsAll es l.ledger
    → none_engaged es l.ledger.performers.names.items ≡ none_engaged es (drop l.name-index l.ledger.performers.names.items)
