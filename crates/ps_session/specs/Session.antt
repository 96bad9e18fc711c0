-- What a session does, and what it writes.
use Rattle.std.specs.Prelude.{◌≡◌, ℕ, ◌≤◌, false, List, ◌∷◌, ◌++◌, Option, Some, All, Result, IfOk, OnErr}
use Rattle.std.specs.Bool.{Decides}
use Rattle.std.specs.Io.KnownBytes.{Appends}
use Rattle.ps_world.specs.Names.{Table}
use Rattle.ps_action.specs.Search.{answer}
use Rattle.ps_action.specs.declared.acts.Act.{Act}
use Rattle.ps_action.specs.declared.answers.Answer.TheVariants.{Plan}
use Rattle.ps_rules.specs.Choices.{session_ordered}
use Rattle.ps_rules.specs.Heads.{settings_of}
use Rattle.ps_rules.specs.History.{IsHistory, IsWhole, status_of}
use Rattle.ps_rules.specs.Journal.{AreEntriesIn, journal_text}
use Rattle.ps_rules.specs.Known.{know}
use Rattle.ps_rules.specs.Runs.{is_running, kind}
use Rattle.ps_rules.specs.Settled.{is_reached}
use Rattle.ps_machine.specs.declared.inputs.Input.{Input}
use Rattle.ps_machine.specs.declared.journal.Outcome.{Outcome}
use Rattle.ps_machine.specs.declared.journal.Outcome.TheVariants as outcome
use Rattle.ps_machine.specs.declared.journal.RunKind.TheVariants as run
use Rattle.ps_machine.specs.declared.journal.Event.TheVariants as event
use Rattle.ps_machine.specs.declared.journal.Entry.{Entry}
use Rattle.ps_text.specs.Outside.{AppendsPrefix, CountsWork, next, SinkView}
use Rattle.ps_text.specs.Work.{DoesWork}
use Rattle.ps_text.specs.declared.sinks.SinkRefusal.{SinkRefusal}
use Rattle.ps_board.specs.declared.board.Shown.{Shown}
use Rattle.ps_session.specs.declared.ways.Turns.{Turns}
use Rattle.ps_session.specs.declared.ways.Turns.TheVariants.{InOrder, Workers}

-- ---- the journal of a session

-- there are 1 to 16 workers, where workers take the turns
abbrev pub AreTurns : Turns → Type 0
AreTurns InOrder = Unit {0}
AreTurns (Workers count) = (1 ≤ count) × (count ≤ 16)

-- how many hands a run has beside the terminal's
abbrev pub hands_of : Turns → ℕ
hands_of InOrder = 1
hands_of (Workers count) = count

-- The entries are those of the session whose members take turns in order, so many in each run, where the solver answers as it should.
pub record IsOrdered (i : Input) (es : List Entry) : Type 0 where
  pub turns : ℕ
  pub all : es ≡ session_ordered answer i turns

-- an entry that ends a run
abbrev pub over : ℕ → Outcome → Entry
over hand how = record { hand = hand; what = event.Over how }

-- a run that ends is told to have succeeded exactly where its goal holds then
abbrev pub TellSuccess : Input → List Entry → Type 0
TellSuccess i es =
    (before after : List Entry) (hand : ℕ) (how : Outcome) → es ≡ before ++ over hand how ∷ after
    → Decides (is_reached i before (kind before)) (how ≡ outcome.Success)

-- an entry that opens a run for the goal with this plan
abbrev pub opened : ℕ → List Act → Entry
opened hand plan = record { hand = hand; what = event.Run run.Goal plan }

-- a run for the goal that is opened has the plan that the solver is to answer for what is known then, as `get plan` tells it
abbrev pub RunsAnswered : Input → List Entry → Type 0
RunsAnswered i es =
    (before after : List Entry) (hand : ℕ) (plan : List Act) → es ≡ before ++ opened hand plan ∷ after
    → answer i.domain (know i before) i.budget ≡ Plan plan

-- The entries are the journal of a session of this input: a legal history, in which each line of the terminal has its entry and no run is
-- left open. Each is by the terminal or by one of the workers, each run for the goal has the solver's plan, and success is told just where
-- it is. Where the members take turns in order, it is the one journal of that.
pub record IsJournal (how : Turns) (i : Input) (es : List Entry) : Type 0 where
  pub history : IsHistory i es
  pub whole : IsWhole i es
  pub hands : All (λ e. e.hand ≤ hands_of how) es
  pub runs : RunsAnswered i es
  pub success : TellSuccess i es
  pub ordered : how ≡ InOrder → IsOrdered i es

-- ---- what is written

-- The bytes are those of a session of this input, which ends with this status: their entries, read from the bytes line by line, are its
-- journal, the bytes are just the text of that journal, and the status is a function of it.
pub record IsSession (how : Turns) (i : Input) (names : Table) (bytes : List ℕ) (status : ℕ) : Type 0 where
  pub journal : List Entry
  pub entries : AreEntriesIn (Some (settings_of i)) names bytes journal
  pub text : journal_text names i journal ≡ bytes
  pub is : IsJournal how i journal
  pub answer : status ≡ status_of journal

-- what a sink took is a whole session
abbrev pub IsDone : Turns → Input → Table → Option (List ℕ) → Option (List ℕ) → ℕ → Type 0
IsDone how i names old new status = (bytes : List ℕ) × Appends old new bytes × IsSession how i names bytes status

-- what a sink took is a whole session with this journal
abbrev pub IsDoneAs : Turns → Input → Table → Option (List ℕ) → Option (List ℕ) → List Entry → Type 0
IsDoneAs how i names old new es = (done : IsDone how i names old new (status_of es)) × (done.2.journal ≡ es)

-- ---- what is broken off

-- The journal of the session whose members take turns in order, so many in each run, begins with these entries.
pub record BeginsInOrder (i : Input) (es : List Entry) : Type 0 where
  pub turns : ℕ
  pub rest : List Entry
  pub all : session_ordered answer i turns ≡ es ++ rest

-- The entries may begin a journal of a session of this input, and end where a line is answered and the run that it opens is over: they are a
-- legal history that leaves no run open, each is by the terminal or by one of the workers, and each run for the goal has the solver's plan.
-- Where the members take turns in order, the one journal of that begins with them.
pub record BeginsJournal (how : Turns) (i : Input) (es : List Entry) : Type 0 where
  pub history : IsHistory i es
  pub closed : is_running es ≡ false
  pub hands : All (λ e. e.hand ≤ hands_of how) es
  pub runs : RunsAnswered i es
  pub ordered : how ≡ InOrder → BeginsInOrder i es

-- where the writing of a text stopped: at a write that was refused, at its end, or before anything was written
pub data Stops (text : List ℕ) (old new : SinkView) : Type 0 where
  at_refusal : new.refused ≡ next old.refused → Stops text old new
  at_end : Appends old.bytes new.bytes text → Stops text old new
  at_start : new.bytes ≡ old.bytes → Stops text old new

-- What a sink took of a session that was broken off: a prefix of the text of entries that may begin its journal; and where no write was
-- refused, it is all of that text or nothing. So of a run in which memory runs out nothing is written.
pub record IsCut (how : Turns) (i : Input) (names : Table) (old new : SinkView) : Type 0 where
  pub journal : List Entry
  pub begins : BeginsJournal how i journal
  pub text : AppendsPrefix old.bytes new.bytes (journal_text names i journal)
  pub stop : Stops (journal_text names i journal) old new

-- Doing a session: the sink took a whole one, which ends with the status that is answered, or, where a write was refused or memory
-- ran out, a prefix of the text of a beginning of one.
abbrev pub Runs : Turns → Input → Table → SinkView → SinkView → Result ℕ SinkRefusal → Type 0
Runs how i names old new = DoesWork (IsDone how i names old.bytes new.bytes) (IsCut how i names old new) old new

-- Doing a session whose board is given back: the same, where the board is one of this input and has the journal.
pub record RunsTo (how : Turns) (i : Input) (names : Table) (old new : SinkView) (r : Result Shown SinkRefusal) : Type 0 where
  pub input : IfOk r (λ b. b.input ≡ i)
  pub done : IfOk r (λ b. IsDoneAs how i names old.bytes new.bytes b.entries)
  pub cut : OnErr r (IsCut how i names old new)
  pub counted : CountsWork old new r
