-- One turn, and many.
use Rattle.std.specs.Prelude.{◌≡◌, ℕ, ◌%◌, if◌then◌else◌, None, Some, option_and_then, List, filter_map, length, map, slice_get, take}
use Rattle.std.specs.Option.{option_map_or}
use Rattle.ps_machine.specs.declared.inputs.Input.{Input}
use Rattle.ps_machine.specs.declared.journal.Entry.{Entry}
use Rattle.ps_rules.specs.Runs.{is_running}
use Rattle.ps_rules.specs.Members.{as_observer, as_performer, observers}
use Rattle.ps_rules.specs.Choices.{actors, observer_turn, ordered, performer_turn, planned, Says, ticker_turn, with_block}
use Rattle.ps_rules.specs.Known.{know}
use Rattle.ps_board.specs.Grants.{performer_names}
use Rattle.ps_board.specs.Ticks.{snapshot_of}
use Rattle.ps_board.specs.declared.ticks.Snapshot.{Snapshot}
use Rattle.ps_pool.specs.Ordered.{ReachesBy}
use Rattle.ps_pool.specs.declared.ordered.Passed.{Passed}

-- ---- one turn

-- the entries after the turn of the performer with this number, in which it does its work at once
abbrev pub after_performer : Input → ℕ → List Entry → List Entry
after_performer i p es =
    option_map_or (with_block i 1 es)
    (if is_running es then option_and_then (λ name. performer_turn i name es) (slice_get (performer_names i) p) else None) es

-- the entries after the turn of the observer with this number
abbrev pub after_observer : Input → ℕ → List Entry → List Entry
after_observer i o es =
    option_map_or (with_block i 1 es)
    (if is_running es then option_and_then (λ name. observer_turn i name es) (slice_get (map (λ w. w.name) (observers i)) o) else None) es

-- the entries after the turn of the ticker, in which the solver answers at once
abbrev pub after_ticker : Says → Input → List Entry → List Entry
after_ticker says i es = option_map_or (with_block i 1 es) (if is_running es then ticker_turn says i es else None) es

-- the entries after what follows the solver's answer for what is known now
abbrev pub after_answer : Says → Input → List Entry → List Entry
after_answer says i es = option_map_or (with_block i 1 es) (planned (says i.domain (know i es) i.budget)) es

-- the solver is asked after these entries, and this is handed out to ask it with
abbrev pub IsWanted : Input → List Entry → Snapshot → Type 0
IsWanted i es snapshot = snapshot_of i es ≡ Some snapshot

-- how many performers and observers stand before this place among the members
abbrev pub passed_before : Input → ℕ → Passed
passed_before i k = record {
  performers = length (filter_map as_performer (take k i.members));
  observers = length (filter_map as_observer (take k i.members));
}

-- ---- many turns

-- turns in order lead here from these entries, and next it is the turn of the actor with this number
pub record IsTurnOf (says : Says) (i : Input) (es : List Entry) (k : ℕ) (now : List Entry) : Type 0 where
  pub turns : ℕ
  pub all : now ≡ ordered says i es turns
  pub next : turns % length (actors i) ≡ k

-- wherever turns in order lead to these entries and the turn of one actor, they lead on to those and the turn of another
abbrev pub LeadsTo : Says → Input → ℕ → List Entry → ℕ → List Entry → Type 0
LeadsTo says i k old l new = (es : List Entry) → IsTurnOf says i es k old → IsTurnOf says i es l new

-- wherever turns in order lead to these entries and the turn of one actor, they lead on to those
abbrev pub StopsFrom : Says → Input → ℕ → List Entry → List Entry → Type 0
StopsFrom says i k old new = (es : List Entry) → IsTurnOf says i es k old → ReachesBy says i es new
