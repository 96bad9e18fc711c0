-- Who works on a request and what it records next, who has no work there, and who goes on while a run is open.
use Rattle.std.specs.Prelude.{◌≡◌, ℕ, true, false, if◌then◌else◌, Option, Some, None, is_some, option_and_then, option_map, List, map, slice_get, IsTrue, ◌⊎◌}
use Rattle.ps_world.specs.declared.names.Name.{Name}
use Rattle.ps_machine.specs.declared.inputs.Input.{Input}
use Rattle.ps_machine.specs.declared.members.Unit.{Unit as Task}
use Rattle.ps_machine.specs.declared.journal.Event.{Event}
use Rattle.ps_machine.specs.declared.journal.Event.TheVariants as event
use Rattle.ps_machine.specs.declared.journal.Entry.{Entry}
use Rattle.ps_rules.specs.Runs.{is_running, says_plan}
use Rattle.ps_rules.specs.Auctions.{act_of, is_engaged, is_for_active, is_working}
use Rattle.ps_rules.specs.Lines.{answers_line}
use Rattle.ps_rules.specs.Members.{next_unit, observers, performer_of, performers, unit_of}
use Rattle.ps_rules.specs.Legal.{is_legal, row_allows}
use Rattle.ps_rules.specs.History.{IsHistory}
use Rattle.ps_rules.specs.Choices.{observer_turn, performer_turn, ticked, unit_event, wants_plan}
use Rattle.ps_rules.specs.Sound.{IsSound}
use Rattle.ps_progress_laws.specs.Engaged.{is_engaged_on}

-- ---- what one who works records next

-- the unit that stands next in the job of the performer of this name, whether or not the request's act is active
abbrev pub unit_due : Input → ℕ → Name → List Entry → Option Task
unit_due i r p es = option_and_then (λ performer. unit_of performer r p es) (performer_of i p)

-- what one who works on a request records next: its next unit where the request's act is active, and else that it stopped
abbrev pub recorded : Input → List Entry → ℕ → Name → Option Event
recorded i es r p =
    if is_for_active r es then option_map (unit_event i es r p) (unit_due i r p es) else Some (event.Stopped r p)

-- a performer can record on a request: a run is open, a unit stands next in its job, and what it records next is legal, answers no
-- line, so that it has a hand from 1 to 16, and makes no plan
pub record CanRecord (i : Input) (es : List Entry) (r : ℕ) (p : Name) : Type 0 where
  pub running : is_running es ≡ true
  pub next : Task
  pub due : unit_due i r p es ≡ Some next
  pub what : Event
  pub records : recorded i es r p ≡ Some what
  pub legal : IsTrue (is_legal i es what)
  pub no_line : answers_line what ≡ false
  pub no_plan : says_plan what ≡ None

-- in every history of a sound input whoever works on a request can record there
abbrev pub WhoWorksCanRecord : Type 0
WhoWorksCanRecord =
    (i : Input) (es : List Entry) → IsSound i → IsHistory i es
    → (r : ℕ) (p : Name) → is_working r p es ≡ true → CanRecord i es r p

-- ---- who has no work

-- a performer has no work on a request: it can neither stop nor begin there, and has no next unit there
pub record HasNoWork (i : Input) (es : List Entry) (r : ℕ) (p : Name) : Type 0 where
  pub stops : row_allows i es (event.Stopped r p) ≡ false
  pub begins : row_allows i es (event.Begin r p) ≡ false
  pub works : next_unit i r p es ≡ None

-- in every history a performer that isn't engaged has no work on any request
abbrev pub IdleHasNoWork : Type 0
IdleHasNoWork =
    (i : Input) (es : List Entry) → IsHistory i es → (p : Name) → is_engaged p es ≡ false → (r : ℕ) → HasNoWork i es r p

-- nobody has work on a request that is for no act of the present plan
abbrev pub OlderHasNoWork : Type 0
OlderHasNoWork = (i : Input) (es : List Entry) (r : ℕ) → act_of r es ≡ None → (p : Name) → HasNoWork i es r p

-- a performer's work is on one request: where it can stop or begin, or has a next unit, it is engaged, and it is so on one request
pub record HasOneWork (i : Input) (es : List Entry) (p : Name) : Type 0 where
  pub stops : (r : ℕ) → row_allows i es (event.Stopped r p) ≡ true → is_engaged_on r p es ≡ true
  pub begins : (r : ℕ) → row_allows i es (event.Begin r p) ≡ true → is_engaged_on r p es ≡ true
  pub works : (r : ℕ) (u : Task) → next_unit i r p es ≡ Some u → is_engaged_on r p es ≡ true
  pub one : (r s : ℕ) → is_engaged_on r p es ≡ true → is_engaged_on s p es ≡ true → r ≡ s

-- in every history the work of each performer is on one request
abbrev pub OneWork : Type 0
OneWork = (i : Input) (es : List Entry) → IsHistory i es → (p : Name) → HasOneWork i es p

-- ---- who goes on

-- some performer, known by its number among the performers, would do something in its turn
abbrev pub PerformerGoesOn : Input → List Entry → Type 0
PerformerGoesOn i es =
    (k : ℕ) × (name : Name) × (slice_get (map (λ p. p.name) (performers i)) k ≡ Some name)
    × (is_some (performer_turn i name es) ≡ true)

-- some observer, known by its number among the observers, would do something in its turn
abbrev pub ObserverGoesOn : Input → List Entry → Type 0
ObserverGoesOn i es =
    (k : ℕ) × (name : Name) × (slice_get (map (λ o. o.name) (observers i)) k ≡ Some name)
    × (is_some (observer_turn i name es) ≡ true)

-- while a run of a sound input is open, where the ticker has nothing to do and the solver isn't asked, some member would do something
-- in its turn
abbrev pub SomebodyGoesOn : Type 0
SomebodyGoesOn =
    (i : Input) (es : List Entry) → IsSound i → IsHistory i es → IsTrue (is_running es) → ticked i es ≡ None
    → wants_plan i es ≡ false → PerformerGoesOn i es ⊎ ObserverGoesOn i es
