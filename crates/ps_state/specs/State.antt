-- What is kept of a session beside its entries.
use Rattle.std.specs.Prelude.{◌≡◌, ◌≤◌, List, length}
use Rattle.ps_action.specs.Arcs.{arcs_of}
use Rattle.ps_action.specs.Trees.{waits_of}
use Rattle.ps_machine.specs.declared.inputs.Input.{Input}
use Rattle.ps_machine.specs.declared.journal.Entry.{Entry}
use Rattle.ps_rules.specs.Runs.{plan}
use Rattle.ps_rules.specs.Known.{grounds, know}
use Rattle.ps_rules.specs.Lines.{due_lines}
use Rattle.ps_ledger.specs.Ledger.{TellsAll}
use Rattle.ps_ledger.specs.Legal.{HasMembersOf}
use Rattle.ps_state.specs.declared.state.State.{State}

-- What is kept is what these entries of this input tell: the domain, how many lines are due, what is known, the ledger of the input's
-- members, and the ground actions of the plan, at most 256 and one for each act, with their arcs and the tree over them.
pub record Stands (i : Input) (es : List Entry) (p : State) : Type 0 where
  pub domain : p.expert ≡ i.domain
  pub due : p.due ≡ length (due_lines i.lines)
  pub known : p.problem ≡ know i es
  pub members : HasMembersOf i p.ledger
  pub told : TellsAll es p.ledger
  pub few : length (plan es) ≤ 256
  pub grounds : p.grounds.items ≡ grounds i.domain (plan es)
  pub arcs : p.arcs.pairs ≡ arcs_of p.grounds.items
  pub acts : p.arcs.acts ≡ length (plan es)
  pub tree : p.tree.waits ≡ waits_of p.arcs

-- this is what an input and its entries say, of which this is kept
abbrev pub SaysFor : {A : Type 0} → Input → State → A → (List Entry → A) → Type 0
SaysFor i p a says = (es : List Entry) → Stands i es p → a ≡ says es

-- the same, whatever the input
abbrev pub Says : {A : Type 0} → State → A → (Input → List Entry → A) → Type 0
Says p a says = (i : Input) (es : List Entry) → Stands i es p → a ≡ says i es
