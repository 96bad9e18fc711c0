-- That the lists from which the ticker and the members choose leave out nothing that is legal.
use Rattle.std.specs.Prelude.{◌≡◌, ℕ, ◌⊎◌, false, Some, None, List, ◌++◌, Contains, IsTrue, IsFalse, find}
use Rattle.ps_world.specs.declared.names.Name.{Name}
use Rattle.ps_machine.specs.declared.inputs.Input.{Input}
use Rattle.ps_machine.specs.declared.members.Unit.{Unit as Task}
use Rattle.ps_machine.specs.declared.journal.Event.{Event}
use Rattle.ps_machine.specs.declared.journal.Entry.{Entry}
use Rattle.ps_rules.specs.Auctions.{is_unit}
use Rattle.ps_rules.specs.Choices.{answers, beginnings, confirms, ends, leaves, observer_turn, overs, performed, performer_turn, puts_up, rejects, starts, stops, ticked, wants_plan, work_of}
use Rattle.ps_rules.specs.History.{IsHistory}
use Rattle.ps_rules.specs.Legal.{is_legal}
use Rattle.ps_rules.specs.Members.{is_observed}
use Rattle.ps_choice_laws.specs.Whose.{is_performer_event, is_ticker_event, may_rest_on_answer}

-- ---- the ticker

-- what the ticker chooses from, in order
abbrev pub ticker_choices : Input → List Entry → List Event
ticker_choices i es = rejects es ++ (confirms es ++ (leaves es ++ (ends es ++ (puts_up es ++ (starts es ++ overs i es)))))

-- an event is one that the ticker chooses from, or one that rests on the solver's answer, where the solver is asked
abbrev pub IsTickersChoice : Input → List Entry → Event → Type 0
IsTickersChoice i es e = Contains (ticker_choices i es) e ⊎ (IsTrue (wants_plan i es) × IsTrue (may_rest_on_answer e))

-- the ticker chooses the first legal event of that list, and each legal event of its own is a choice
pub record ListsAllOfTicker (i : Input) (es : List Entry) : Type 0 where
  pub first : ticked i es ≡ find (is_legal i es) (ticker_choices i es)
  pub each : (e : Event) → IsTrue (is_ticker_event e) → IsTrue (is_legal i es e) → IsTickersChoice i es e

-- in every history the ticker's list leaves out nothing that is legal
abbrev pub TickerListsAll : Type 0
TickerListsAll = (i : Input) (es : List Entry) → IsHistory i es → ListsAllOfTicker i es

-- in every history, where the ticker chooses nothing and the solver isn't asked, no event of the ticker is legal
abbrev pub TickerLeavesNothing : Type 0
TickerLeavesNothing =
    (i : Input) (es : List Entry) → IsHistory i es → ticked i es ≡ None → wants_plan i es ≡ false
    → (e : Event) → IsTrue (is_ticker_event e) → IsFalse (is_legal i es e)

-- ---- performers

-- what a performer chooses from before any work, in order
abbrev pub performer_choices : Name → List Entry → List Event
performer_choices p es = answers p es ++ (stops p es ++ beginnings p es)

-- an event is a unit of this performer on the request that it works on
abbrev pub IsWork : Input → List Entry → Name → Event → Type 0
IsWork i es p e = (r : ℕ) × (u : Task) × (work_of i p es ≡ Some (r, u)) × IsTrue (is_unit r p e)

-- a performer chooses the first legal event of that list, and each legal event of its own stands there or is a unit of its work
pub record ListsAllOfPerformer (i : Input) (es : List Entry) (p : Name) : Type 0 where
  pub first : performed i p es ≡ find (is_legal i es) (performer_choices p es)
  pub each : (e : Event) → IsTrue (is_performer_event p e) → IsTrue (is_legal i es e)
      → Contains (performer_choices p es) e ⊎ IsWork i es p e

-- in every history the list of each performer leaves out nothing that is legal but units of its work
abbrev pub PerformersListAll : Type 0
PerformersListAll = (i : Input) (es : List Entry) → IsHistory i es → (p : Name) → ListsAllOfPerformer i es p

-- in every history, where a performer does nothing in its turn, no event of that performer is legal
abbrev pub PerformersLeaveNothing : Type 0
PerformersLeaveNothing =
    (i : Input) (es : List Entry) → IsHistory i es → (p : Name) → performer_turn i p es ≡ None
    → (e : Event) → IsTrue (is_performer_event p e) → IsFalse (is_legal i es e)

-- ---- observers

-- where an observer does nothing in its turn, no event of that observer is legal
abbrev pub ObserversLeaveNothing : Type 0
ObserversLeaveNothing =
    (i : Input) (es : List Entry) (o : Name) → observer_turn i o es ≡ None
    → (e : Event) → IsTrue (is_observed o e) → IsFalse (is_legal i es e)
