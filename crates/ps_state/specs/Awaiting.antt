-- How an event that may come next leaves what is kept: what awaits it, what is ahead of the ledger by it, and what stands after it.
use Rattle.std.specs.Option.{unwrap_or}
use Rattle.std.specs.Prelude.{◌≡◌, ℕ, ◌≤◌, List, [], ◌∷◌, ◌++◌, All, IsOk, length}
use Rattle.ps_world.specs.Knowledge.{edited}
use Rattle.ps_world.specs.declared.domains.Domain.{Domain}
use Rattle.ps_world.specs.declared.edits.Edit.{Edit}
use Rattle.ps_world.specs.declared.known.Knowledge.{Knowledge}
use Rattle.ps_action.specs.Arcs.{arcs_of}
use Rattle.ps_action.specs.Grounding.{ground_act}
use Rattle.ps_action.specs.Trees.{waits_of}
use Rattle.ps_action.specs.declared.acts.Act.{Act}
use Rattle.ps_machine.specs.declared.inputs.Input.{Input}
use Rattle.ps_machine.specs.declared.journal.Entry.{Entry}
use Rattle.ps_machine.specs.declared.journal.Event.{Event}
use Rattle.ps_machine.specs.declared.journal.Event.TheVariants as event
use Rattle.ps_rules.specs.Runs.{plan, says_plan}
use Rattle.ps_rules.specs.Known.{grounds, kept, know, known_after}
use Rattle.ps_rules.specs.Lines.{due_lines}
use Rattle.ps_ledger.specs.Ledger.{TellsAll}
use Rattle.ps_ledger.specs.Legal.{HasMembersOf}
use Rattle.ps_rules.specs.History.{cancels}
use Rattle.ps_machine.specs.declared.journal.CancelWhy.{CancelWhy}
use Rattle.ps_state.specs.State.{Stands}
use Rattle.ps_state.specs.declared.state.State.{State}

-- what is known after an event, if it is an edit
abbrev pub after_edit : Domain → Knowledge → Event → Knowledge
after_edit d k (event.Edit by edit) = kept k (edited d k edit)
after_edit d k e = k

-- What is kept is what these entries tell, but for this event, which comes after them: if it is an edit it has been made.
pub record Awaits (i : Input) (es : List Entry) (e : Event) (p : State) : Type 0 where
  pub domain : p.expert ≡ i.domain
  pub due : p.due ≡ length (due_lines i.lines)
  pub known : p.problem ≡ after_edit i.domain (know i es) e
  pub members : HasMembersOf i p.ledger
  pub told : TellsAll es p.ledger
  pub few : length (plan es) ≤ 256
  pub grounds : p.grounds.items ≡ grounds i.domain (plan es)
  pub arcs : p.arcs.pairs ≡ arcs_of p.grounds.items
  pub acts : p.arcs.acts ≡ length (plan es)
  pub tree : p.tree.waits ≡ waits_of p.arcs

-- What is kept is what these entries and this event after them tell, but for the ledger, which tells of these entries alone.
pub record IsAhead (i : Input) (es : List Entry) (e : Event) (p : State) : Type 0 where
  pub domain : p.expert ≡ i.domain
  pub due : p.due ≡ length (due_lines i.lines)
  pub known : p.problem ≡ known_after i.domain (plan es) (know i es) e
  pub members : HasMembersOf i p.ledger
  pub told : TellsAll es p.ledger
  pub few : length (unwrap_or (says_plan e) (plan es)) ≤ 256
  pub grounds : p.grounds.items ≡ grounds i.domain (unwrap_or (says_plan e) (plan es))
  pub arcs : p.arcs.pairs ≡ arcs_of p.grounds.items
  pub acts : p.arcs.acts ≡ length (unwrap_or (says_plan e) (plan es))
  pub tree : p.tree.waits ≡ waits_of p.arcs

-- All is as it was, but for what is known.
pub record HasSameRest (old new : State) : Type 0 where
  pub expert : new.expert ≡ old.expert
  pub due : new.due ≡ old.due
  pub ledger : new.ledger ≡ old.ledger
  pub grounds : new.grounds ≡ old.grounds
  pub arcs : new.arcs ≡ old.arcs
  pub tree : new.tree ≡ old.tree

-- All is as it was, but for the tree of the plan.
pub record HasSameButTree (old new : State) : Type 0 where
  pub expert : new.expert ≡ old.expert
  pub due : new.due ≡ old.due
  pub known : new.problem ≡ old.problem
  pub ledger : new.ledger ≡ old.ledger
  pub grounds : new.grounds ≡ old.grounds
  pub arcs : new.arcs ≡ old.arcs

-- these are at most 256 acts that can be grounded
pub record MayBePlan (d : Domain) (k : Knowledge) (acts : List Act) : Type 0 where
  pub few : length acts ≤ 256
  pub grounded : All (λ act. IsOk (ground_act d k.instances act)) acts

-- an event that makes a plan makes it of acts that can be grounded
abbrev pub MayBegin : Event → State → Type 0
MayBegin (event.Run for acts) p = MayBePlan p.expert p.problem acts
MayBegin (event.Replan acts) p = MayBePlan p.expert p.problem acts
MayBegin e p = Unit {0}

-- what awaits an event still does
abbrev pub KeepsAwaiting : State → State → Type 0
KeepsAwaiting old new = (i : Input) (es : List Entry) (e : Event) → Awaits i es e old → Awaits i es e new

-- what stands still does
abbrev pub KeepsStanding : State → State → Type 0
KeepsStanding old new = (i : Input) (es : List Entry) → Stands i es old → Stands i es new

-- what stood before an event is ahead of the ledger by that event
abbrev pub Advances : Event → State → State → Type 0
Advances event old new = (i : Input) (es : List Entry) → Stands i es old → IsAhead i es event new

-- what awaited an event stands after it
abbrev pub TakesEvent : Event → State → State → Type 0
TakesEvent event old new =
    (i : Input) (es : List Entry) (e : Entry) → e.what ≡ event → Awaits i es event old → Stands i (es ++ e ∷ []) new

-- what stands still does after the cancel of an act
abbrev pub TakesCancelOf : ℕ → State → State → Type 0
TakesCancelOf act old new =
    (i : Input) (es : List Entry) (hand : ℕ) (why : CancelWhy) → Stands i es old → Stands i (es ++ cancels hand why act ∷ []) new
