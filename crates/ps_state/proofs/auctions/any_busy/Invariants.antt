use Rattle.std.proofs.Common.{◌≡◌, List, drop}
use Rattle.ps_machine.specs.declared.journal.Entry.{Entry}
use Rattle.ps_ledger.specs.Ledger.{TellsAll}
use Rattle.ps_state.specs.Names.{any_busy}
use Rattle.ps_state.proofs.auctions.any_busy.Given as goal

abbrev pub invariant-loop-name : goal.invariant-loop-name
invariant-loop-name l =
    (es : List Entry) → TellsAll es l.ledger
    → any_busy l.r es l.ledger.performers.names.items ≡ any_busy l.r es (drop l.name-index l.ledger.performers.names.items)
