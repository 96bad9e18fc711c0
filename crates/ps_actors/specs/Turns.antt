-- What is chosen in a turn, and what a performer may do in its own.
use Rattle.std.specs.Prelude.{◌≡◌, ℕ, Bool, true, false, Option, Some, None, List, [], ◌∷◌, find}
use Rattle.ps_world.specs.Names.{same_name}
use Rattle.ps_world.specs.declared.names.Name.{Name}
use Rattle.ps_machine.specs.declared.inputs.Input.{Input}
use Rattle.ps_machine.specs.declared.journal.PassWhy.{PassWhy}
use Rattle.ps_machine.specs.declared.journal.PassWhy.TheVariants as pass
use Rattle.ps_machine.specs.declared.journal.Event.{Event}
use Rattle.ps_machine.specs.declared.journal.Event.TheVariants as event
use Rattle.ps_machine.specs.declared.journal.Entry.{Entry}
use Rattle.ps_rules.specs.Runs.{is_running}
use Rattle.ps_rules.specs.Legal.{is_legal}
use Rattle.ps_rules.specs.History.{IsHistory}
use Rattle.ps_rules.specs.Sound.{IsSound}
use Rattle.ps_state.specs.State.{Stands}
use Rattle.ps_state.specs.declared.state.State.{State}
use Rattle.ps_actors.specs.Heard.{HasHeard}
use Rattle.ps_actors.specs.declared.work.AboutWork.{AboutWork}
use Rattle.ps_actors.specs.declared.work.AboutWork.TheVariants as about

-- These entries are a history of this sound input with a run open, and this is what is kept of it.
pub record IsOpen (i : Input) (es : List Entry) (p : State) : Type 0 where
  pub sound : IsSound i
  pub history : IsHistory i es
  pub kept : Stands i es p
  pub live : is_running es ≡ true

-- this is what an input and its entries say in an open run of which this is kept
abbrev pub ChoosesFor : {A : Type 0} → Input → State → A → (List Entry → A) → Type 0
ChoosesFor i p a says = (es : List Entry) → IsOpen i es p → a ≡ says es

-- the same, whatever the input
abbrev pub Chooses : {A : Type 0} → State → A → (Input → List Entry → A) → Type 0
Chooses p a says = (i : Input) (es : List Entry) → IsOpen i es p → a ≡ says i es

-- the same of an input, where a performer has answered the requests below this number
abbrev pub ChoosesFrom : {A : Type 0} → Name → ℕ → Input → State → A → (List Entry → A) → Type 0
ChoosesFrom name upto i p a says = (es : List Entry) → IsOpen i es p → HasHeard name upto es → a ≡ says es

-- whether an event is one that a performer of this name may do before any work: an offer, a pass, a stop or a beginning
abbrev pub is_choice_of : Name → Event → Bool
is_choice_of name (event.Offer r p) = same_name name p
is_choice_of name (event.Pass r p why) = same_name name p
is_choice_of name (event.Stopped r p) = same_name name p
is_choice_of name (event.Begin r p) = same_name name p
is_choice_of name e = false

-- the first event of a list that may come next
abbrev pub first_legal : Input → List Entry → List Event → Option Event
first_legal i es xs = find (is_legal i es) xs

-- the passes of a request, in the order in which a performer chooses
abbrev pub passes_on : Name → ℕ → List Event
passes_on name r = event.Pass r name pass.Late ∷ event.Pass r name pass.Other ∷ event.Pass r name pass.Busy ∷ []

-- its answers to a request, in that order
abbrev pub answers_on : Name → ℕ → List Event
answers_on name r = event.Offer r name ∷ passes_on name r

-- the answer to a request that a performer has not answered, by why it would pass it and whether it is of the run
abbrev pub answer_by : Name → ℕ → Option PassWhy → Bool → Option Event
answer_by name r None of_run = Some (event.Offer r name)
answer_by name r (Some why) true = Some (event.Pass r name why)
answer_by name r (Some why) false = None

-- the stop of the work on a request, or its beginning
abbrev pub work_event : AboutWork → Name → ℕ → Event
work_event about.Stop name r = event.Stopped r name
work_event about.Begin name r = event.Begin r name
