-- Cancels, and what they leave.
use Rattle.std.specs.Prelude.{ℕ, Bool, if◌then◌else◌, List, [], ◌∷◌, ◌++◌, length, map}
use Rattle.ps_action.specs.declared.acts.GroundAction.{GroundAction}
use Rattle.ps_machine.specs.declared.inputs.Input.{Input}
use Rattle.ps_machine.specs.declared.journal.CancelWhy.{CancelWhy}
use Rattle.ps_machine.specs.declared.journal.Entry.{Entry}
use Rattle.ps_rules.specs.History.{cancels}
use Rattle.ps_ledger.specs.declared.ledger.Ledger.{Ledger}
use Rattle.ps_ledger.specs.Ledger.{TellsAll}
use Rattle.ps_ledger.specs.Legal.{HasMembersOf}
use Rattle.ps_monitor.specs.declared.acts.Acts.{Acts}
use Rattle.ps_monitor.specs.declared.monitor.Monitor.{Monitor}
use Rattle.ps_monitor.specs.Watched.{marked}
use Rattle.ps_board.specs.Parts.{IsWatching}

-- an act, if it is to be cancelled
abbrev pub due_act : ℕ → Bool → List ℕ
due_act act is_due = if is_due then act ∷ [] else []

-- the acts of a ledger's plan that are in a set, in rising order
abbrev pub planned : Acts → Ledger → List ℕ
planned acts l = marked acts (length l.acts.states.items)

-- a ledger that told of some entries tells of them and the cancels of these acts
abbrev pub TakesCancels : ℕ → CancelWhy → List ℕ → Ledger → Ledger → Type 0
TakesCancels hand why acts old new = (es : List Entry) → TellsAll es old → TellsAll (es ++ map (cancels hand why) acts) new

-- a monitor that watched exactly the active acts still does
abbrev pub KeepsWatching : Monitor → Ledger → Monitor → Ledger → Type 0
KeepsWatching m l m_new l_new = (gs : List GroundAction) → IsWatching m l gs → IsWatching m_new l_new gs

-- the members of a ledger are those of the input if they were
abbrev pub KeepsMembers : Ledger → Ledger → Type 0
KeepsMembers old new = (i : Input) → HasMembersOf i old → HasMembersOf i new
