-- Stints: what a journal tells of a performer's work on a request.
use Rattle.std.specs.Prelude.{◌≡◌, ℕ, ◌+◌, ◌-◌, ◌^◌, ◌<◌, ◌==◌, nat_eq, if◌then◌else◌, Bool, false, ◌&&◌, ◌||◌, Option, Some, None, List}
use Rattle.std.specs.HashMap.{HashMap, get}
use Rattle.std.specs.Option.{unwrap_or}
use Rattle.ps_world.specs.Names.{same_name}
use Rattle.ps_world.specs.declared.names.Name.{Name}
use Rattle.ps_machine.specs.declared.journal.By.TheVariants as by
use Rattle.ps_machine.specs.declared.journal.Event.{Event}
use Rattle.ps_machine.specs.declared.journal.Event.TheVariants as event
use Rattle.ps_machine.specs.declared.journal.Entry.{Entry}
use Rattle.ps_rules.specs.Reading.{has_been, read}
use Rattle.ps_rules.specs.Auctions.{begins, begins_by, is_begin, is_unit, units_done}
use Rattle.ps_reports.specs.declared.stints.Stint.{Stint}
use Rattle.ps_reports.specs.declared.stints.Stints.{Stints}

-- ---- what the journal tells

-- the request and the performer of a unit, where an event is one
abbrev pub unit_by : Event → Option (ℕ × Name)
unit_by (event.Edit (by.Performer r p) edit) = Some (r, p)
unit_by (event.Refused (by.Performer r p) why) = Some (r, p)
unit_by (event.UnitWork r p) = Some (r, p)
unit_by (event.Feedback r p percent text) = Some (r, p)
unit_by (event.Finish r p ok) = Some (r, p)
unit_by e = None

-- how many units of a performer on a request are recorded
abbrev pub recorded : List Entry → ℕ → Name → ℕ
recorded h r p = units_done r p h

-- whether an event says that this performer stopped on a request
abbrev pub is_stopped : ℕ → Name → Event → Bool
is_stopped r p (event.Stopped s q) = (r == s) && same_name p q
is_stopped r p e = false

-- how often a performer has begun so far, and which of these beginnings, counted from 1, is the one on a request
abbrev pub with_turn : ℕ → Name → ℕ × Option ℕ → Event → ℕ × Option ℕ
with_turn r p s e = (if begins_by p e then s.0 + 1 else s.0, if is_begin r p e then Some (s.0 + 1) else s.1)

abbrev pub turns : ℕ → Name → List Entry → ℕ × Option ℕ
turns r p h = read (with_turn r p) (0, None) h

-- which of a performer's beginnings is the one on a request, if it has begun there
abbrev pub turn_on : ℕ → Name → List Entry → Option ℕ
turn_on r p h = (turns r p h).1

-- a performer's stint on a request
abbrev pub stint : ℕ → Name → List Entry → Stint
stint r p h = record { turn = turn_on r p h; units = recorded h r p; stopped = has_been (is_stopped r p) h }

-- ---- stints as they are kept, entry by entry

-- a performer's stint on a request, after an event, where the performer had begun so often before
abbrev pub with_event : ℕ → Name → ℕ → Event → Stint → Stint
with_event r p begun e s = record {
  turn = if is_begin r p e then Some (begun + 1) else s.turn;
  units = if is_unit r p e then s.units + 1 else s.units;
  stopped = s.stopped || is_stopped r p e;
}

-- the request and the performer of whose work an event tells, if it does
abbrev pub work_by : Event → Option (ℕ × Name)
work_by (event.Begin r p) = Some (r, p)
work_by (event.Stopped r p) = Some (r, p)
work_by e = unit_by e

-- the stint of a request of which nothing is told
abbrev pub no_stint : Stint
no_stint = record { turn = None; units = 0; stopped = false }

-- the stint that is kept of a request
abbrev pub stint_at : Stints → ℕ → Stint
stint_at l r = unwrap_or (get nat_eq l.all r) no_stint

-- no count is at the end of its type
pub record HasCounts (l : Stints) : Type 0 where
  pub begun : l.begun < 2 ^ 64 - 1
  pub units : (r : ℕ) → (stint_at l r).units < 2 ^ 64 - 1

-- what is kept is what these entries tell of the performer
pub record TellsStints (h : List Entry) (l : Stints) : Type 0 where
  pub begun : l.begun ≡ begins l.name h
  pub each : (r : ℕ) → stint_at l r ≡ stint r l.name h

-- what is kept after an event
pub record TakesEvent (e : Event) (old new : Stints) : Type 0 where
  pub name : new.name ≡ old.name
  pub begun : new.begun ≡ (if begins_by old.name e then old.begun + 1 else old.begun)
  pub each : (r : ℕ) → stint_at new r ≡ with_event r old.name old.begun e (stint_at old r)
