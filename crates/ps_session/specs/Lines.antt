-- How a session goes on, line by line.
use Rattle.std.specs.Prelude.{◌≡◌, ◌≢◌, ℕ, ◌+◌, ◌≤◌, ◌⊎◌, Bool, true, false, Option, None, Some, List, [], ◌∷◌, ◌++◌, Result, IfOk, OnOk, OnErr, drop, fold, length, slice_get, take, All}
use Rattle.std.specs.Option.{option_map_or, unwrap_or}
use Rattle.std.specs.Io.KnownBytes.{Appends}
use Rattle.ps_world.specs.Names.{Table}
use Rattle.ps_action.specs.Search.{answer}
use Rattle.ps_action.specs.declared.acts.Act.{Act}
use Rattle.ps_action.specs.declared.answers.Answer.TheVariants.{Plan}
use Rattle.ps_rules.specs.Choices.{after_line, Says}
use Rattle.ps_rules.specs.History.{IsHistory}
use Rattle.ps_rules.specs.Journal.{entry_text, journal_text, text_after}
use Rattle.ps_rules.specs.Known.{know}
use Rattle.ps_rules.specs.Lines.{answered, due_lines, next_line}
use Rattle.ps_rules.specs.Runs.{is_running}
use Rattle.ps_machine.specs.declared.inputs.Input.{Input}
use Rattle.ps_machine.specs.declared.inputs.Line.{Line}
use Rattle.ps_machine.specs.declared.inputs.Query.TheVariants as query
use Rattle.ps_machine.specs.declared.journal.RunKind.TheVariants as run
use Rattle.ps_machine.specs.declared.journal.Event.{Event}
use Rattle.ps_machine.specs.declared.journal.Event.TheVariants as event
use Rattle.ps_machine.specs.declared.journal.Entry.{Entry}
use Rattle.ps_text.specs.Outside.{AppendsPrefix, CountsWork, next, SinkView}
use Rattle.ps_text.specs.declared.sinks.SinkRefusal.{SinkRefusal}
use Rattle.ps_board.specs.declared.board.Shown.{Shown}
use Rattle.ps_board.specs.Board.{IsAtRest}
use Rattle.ps_session.specs.Answers.{AskAtEnd, is_ask}
use Rattle.ps_session.specs.Session.{hands_of, IsCut, IsJournal}
use Rattle.ps_session.specs.declared.lines.Advanced.{Advanced}
use Rattle.ps_session.specs.declared.ways.Turns.{Turns}
use Rattle.ps_session.specs.declared.ways.Turns.TheVariants.{InOrder}

-- ---- one line

-- This line was answered, and where it opened a run, that has ended by turns in order: however many turns a run is allowed, if they are
-- enough.
pub record EndsInOrder (says : Says) (i : Input) (line : Line) (old new : List Entry) : Type 0 where
  pub turns : ℕ
  pub all : (n : ℕ) → turns ≤ n → new ≡ after_line says i n old line

-- no hand is past that of the last worker
abbrev pub HasHands : Turns → List Entry → Type 0
HasHands how es = All (λ e. e.hand ≤ hands_of how) es

-- a run for the goal that an event opens after these entries has the plan that this solver answers then
abbrev pub IsRunBy : Says → Input → List Entry → Event → Type 0
IsRunBy says i es (event.Run run.Goal plan) = says i.domain (know i es) i.budget ≡ Plan plan
IsRunBy says i es e = Unit {0}

-- a query for a plan that comes after these entries is answered by this plan, which this solver answers then
abbrev pub IsToldBy : Says → Input → List Act → List Entry → Event → Type 0
IsToldBy says i plan es (event.Ask query.Plan) = says i.domain (know i es) i.budget ≡ Plan plan
IsToldBy says i plan es e = Unit {0}

-- this is so of the event of each of these entries, after those before it
abbrev pub EachAfter : (List Entry → Event → Type 0) → List Entry → List Entry → Type 0
EachAfter P before [] = Unit {0}
EachAfter P before (e ∷ es) = P before e.what × EachAfter P (before ++ e ∷ []) es

-- The next line was answered, and where it opened a run, that has ended.
pub record IsAnswered (how : Turns) (says : Says) (i : Input) (old new : List Entry) : Type 0 where
  pub line : Line
  pub next : next_line i old ≡ Some line
  pub counted : answered new ≡ answered old + 1
  pub since : List Entry
  pub grown : new ≡ old ++ since
  pub asks : AskAtEnd since
  pub runs : EachAfter (IsRunBy says i) old since
  pub hands : HasHands how old → HasHands how new
  pub ordered : how ≡ InOrder → EndsInOrder says i line old new

-- A board on which no run is open and no grant is out.
pub record IsIdle (i : Input) (b : Shown) : Type 0 where
  pub input : b.input ≡ i
  pub rest : IsAtRest b
  pub closed : is_running b.entries ≡ false

-- the plan that answers a line, or no act
abbrev pub acts_in : Option (List Act) → List Act
acts_in plan = unwrap_or plan []

-- Going on by a line: the next one was answered, and the journal has grown from this place on, with the plan that it asks for, if it asks for
-- one; or none is left and nothing changed.
pub record Advances (how : Turns) (says : Says) (i : Input) (old new : Shown) (came : Advanced) : Type 0 where
  pub idle : IsIdle i new
  pub place : came.from ≡ length old.entries
  pub line : came.from ≢ length new.entries → IsAnswered how says i old.entries new.entries
  pub told : EachAfter (IsToldBy says i (acts_in came.plan)) old.entries (drop (length old.entries) new.entries)
  pub end : came.from ≡ length new.entries → (next_line i old.entries ≡ None) × (new ≡ old)

-- ---- many lines

-- The runs of the first lines of a session, as many as these entries answer, have ended by turns in order.
pub record GoesInOrder (says : Says) (i : Input) (es : List Entry) : Type 0 where
  pub turns : ℕ
  pub all : (n : ℕ) → turns ≤ n → es ≡ fold (after_line says i n) [] (take (answered es) (due_lines i.lines))

-- These entries are those of the first lines of a session, as many as they answer, whose runs have ended.
pub record IsBegun (how : Turns) (says : Says) (i : Input) (es : List Entry) : Type 0 where
  pub few : answered es ≤ length (due_lines i.lines)
  pub runs : EachAfter (IsRunBy says i) [] es
  pub hands : HasHands how es
  pub ordered : how ≡ InOrder → GoesInOrder says i es

-- ---- text

-- a write was refused, or nothing was written
abbrev pub IsRefusedOrUnwritten : SinkView → SinkView → Type 0
IsRefusedOrUnwritten old new = (new.refused ≡ next old.refused) ⊎ (new.bytes ≡ old.bytes)

-- A sink takes a text, or, where a write was refused, a prefix of it, or nothing, where memory ran out before a write.
pub record PutsWork (text : List ℕ) (old new : SinkView) (r : Result (Unit {0}) SinkRefusal) : Type 0 where
  pub whole : OnOk r (Appends old.bytes new.bytes text)
  pub prefix : OnErr r (AppendsPrefix old.bytes new.bytes text)
  pub stop : OnErr r (IsRefusedOrUnwritten old new)
  pub counted : CountsWork old new r

-- The same, and answering something then.
pub record PutsMore (text : List ℕ) (old new : SinkView) (r : Result Bool SinkRefusal) : Type 0 where
  pub whole : OnOk r (Appends old.bytes new.bytes text)
  pub prefix : OnErr r (AppendsPrefix old.bytes new.bytes text)
  pub stop : OnErr r (IsRefusedOrUnwritten old new)
  pub counted : CountsWork old new r

-- the text of the entry at this place, if there is one
abbrev pub text_at : Table → Input → List Entry → ℕ → List ℕ
text_at names i es k = option_map_or (entry_text names i (take k es)) (slice_get es k) []

-- the text of the entries from this place on
abbrev pub text_from : Table → Input → List Entry → ℕ → List ℕ
text_from names i es from = text_after names i (take from es) (drop from es)

-- if the entry at this place asks, it is the last
abbrev pub AsksLast : List Entry → ℕ → Type 0
AsksLast es k = (e : Entry) → slice_get es k ≡ Some e → is_ask e.what ≡ true → length es ≡ k + 1

-- if the entry at this place is the query for a plan, this is the plan that is due
abbrev pub AsksFor : Input → List Entry → List Act → ℕ → Type 0
AsksFor i es plan k = (e : Entry) → slice_get es k ≡ Some e → IsToldBy answer i plan (take k es) e.what

-- A session was begun on this board, and a sink took the text of its journal; no write was refused.
pub record IsWritten (how : Turns) (says : Says) (i : Input) (names : Table) (b : Shown) (start now : SinkView) : Type 0 where
  pub idle : IsIdle i b
  pub begun : IsBegun how says i b.entries
  pub history : IsHistory i b.entries
  pub text : Appends start.bytes now.bytes (journal_text names i b.entries)
  pub failures : now.failed ≡ start.failed
  pub refusals : now.refused ≡ start.refused

-- Going on by a line with a session that was written up to here: it is written up to there, and it is answered whether a line was
-- left; or what was written since the start is cut off.
pub record WritesOn (how : Turns) (says : Says) (i : Input) (names : Table) (new : Shown) (start now : SinkView) (r : Result Bool SinkRefusal) : Type 0 where
  pub written : OnOk r (IsWritten how says i names new start now)
  pub more : IfOk r (λ more. more ≡ false → next_line i new.entries ≡ None)
  pub cut : OnErr r (IsCut how i names start now)
  pub counted : CountsWork start now r

-- going on by a line with a session, wherever it was begun and written up to here
abbrev pub WritesLine : Turns → Says → Input → Table → Shown → Shown → SinkView → SinkView → Result Bool SinkRefusal → Type 0
WritesLine how says i names old new before after r =
    (start : SinkView) → IsWritten how says i names old start before → WritesOn how says i names new start after r

-- Writing a session: the journal is whole, and so is its text; or its text is cut off.
pub record WritesLines (how : Turns) (i : Input) (names : Table) (b : Shown) (start now : SinkView) (r : Result (Unit {0}) SinkRefusal) : Type 0 where
  pub input : OnOk r (b.input ≡ i)
  pub journal : OnOk r (IsJournal how i b.entries)
  pub text : OnOk r (Appends start.bytes now.bytes (journal_text names i b.entries))
  pub cut : OnErr r (IsCut how i names start now)
  pub counted : CountsWork start now r
