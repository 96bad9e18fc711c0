-- What a ledger may take of what may come after a history.
use Rattle.std.specs.Prelude.{◌≡◌, ◌<◌, IsTrue, List, length, map}
use Rattle.ps_machine.specs.declared.inputs.Input.{Input}
use Rattle.ps_machine.specs.declared.journal.Event.{Event}
use Rattle.ps_machine.specs.declared.journal.Entry.{Entry}
use Rattle.ps_rules.specs.History.{IsHistory}
use Rattle.ps_rules.specs.Legal.{is_legal}
use Rattle.ps_rules.specs.Members.{observers, performers}
use Rattle.ps_rules.specs.Sound.{IsSound}
use Rattle.ps_ledger.specs.Ledger.{Speaks, TellsAll}
use Rattle.ps_ledger.specs.declared.ledger.Ledger.{Ledger}

-- The members of the ledger are those of the input.
pub record HasMembersOf (i : Input) (l : Ledger) : Type 0 where
  pub performers : l.performers.names.items ≡ map (λ p. p.name) (performers i)
  pub observers : l.observers.names.items ≡ map (λ o. o.name) (observers i)

-- A legal event after a history of a sound input speaks of what is there in a ledger that tells of the history, where no count of its
-- entries is at the end of its type.
abbrev pub LegalEventsSpeakOfLedgers : Type 0
LegalEventsSpeakOfLedgers =
    (i : Input) (es : List Entry) (e : Event) (l : Ledger) → IsSound i → IsHistory i es → length es < 18446744073709551615
    → HasMembersOf i l → TellsAll es l → IsTrue (is_legal i es e) → Speaks e l
