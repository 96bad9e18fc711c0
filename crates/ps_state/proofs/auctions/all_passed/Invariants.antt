use Rattle.std.proofs.Common.{◌≡◌, List, drop}
use Rattle.ps_machine.specs.declared.journal.Entry.{Entry}
use Rattle.ps_ledger.specs.Ledger.{TellsAll}
use Rattle.ps_state.specs.Names.{all_passed}
use Rattle.ps_state.proofs.auctions.all_passed.Given as goal

abbrev pub invariant-loop-name : goal.invariant-loop-name
invariant-loop-name l =
    (es : List Entry) → TellsAll es l.ledger
    → all_passed l.r es l.ledger.performers.names.items ≡ all_passed l.r es (drop l.name-index l.ledger.performers.names.items)
