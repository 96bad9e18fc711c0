-- What calls that write a session come to.
use Rattle.std.proofs.Common.{◌≡◌, ℕ, nat_lt, Bool, false, IfOk, Some, Result, Ok, Err, length, refl, ap, sym, subst}
use Rattle.ps_world.specs.Names.{Table}
use Rattle.ps_machine.specs.declared.inputs.Input.{Input}
use Rattle.ps_rules.specs.Choices.{Says}
use Rattle.ps_rules.specs.History.{IsHistory, status_of}
use Rattle.ps_rules.specs.Heads.{head_text, settings_of}
use Rattle.ps_rules.specs.Journal.{journal_text}
use Rattle.ps_rules.specs.Sound.{IsSound}
use Rattle.ps_rules.proofs.Notes.{histories_are_read_back}
use Rattle.ps_text.specs.Names.{AreNames}
use Rattle.ps_text.specs.Outside.{SinkView}
use Rattle.ps_text.specs.declared.sinks.SinkRefusal.{SinkRefusal}
use Rattle.ps_text.specs.declared.sinks.SinkRefusal.TheVariants as sink
use Rattle.ps_journal.proofs.NameLines.{AreLines-names}
use Rattle.ps_board.specs.Board.{nothing_done}
use Rattle.ps_board.specs.declared.board.Shown.{Shown}
use Rattle.ps_replies.specs.Plans.{GivesLeast}
use Rattle.ps_session.specs.Lines.{Advances, IsIdle, IsWritten, PutsMore, PutsWork, text_from, WritesLine, WritesLines, WritesOn}
use Rattle.ps_session.specs.Session.{IsDone, IsSession, Runs, RunsTo}
use Rattle.ps_session.specs.declared.lines.Advanced.{Advanced}
use Rattle.ps_session.specs.declared.ways.Turns.{Turns}
use Rattle.ps_session.proofs.Advancing.{idle-first}
use Rattle.ps_session.proofs.Journals.{journal-of}
use Rattle.ps_session.proofs.Writing.{cut-between, cut-head, cut-nothing, cut-on, no-more, work-since, written-first, written-on}

-- ---- one line

-- memory ran out before an entry of the line was written
pub starved-line : (how : Turns) (says : Says) (i : Input) (names : Table) (b new : Shown) (now : SinkView) → GivesLeast says
    → WritesLine how says i names b new now now (Err sink.OutOfMemory)
starved-line how says i names b new now gives = λ start w. record { written = tt; more = tt; cut = cut-between how says i names b start now gives w; counted = w.failures }

module _ (how : Turns) (says : Says) (i : Input) (names : Table) (b new : Shown) (came : Advanced) (old now : SinkView) (went : Advances how says i b new came) (history : IsHistory new.input new.entries) where
  abbrev from : ℕ
  from = came.from

  here : IsHistory i new.entries
  here = subst (λ j. IsHistory j new.entries) went.idle.input history

  there : (r : Result (Unit {0}) SinkRefusal) → PutsWork (text_from names new.input new.entries from) old now r → PutsWork (text_from names i new.entries from) old now r
  there r put = subst (λ j. PutsWork (text_from names j new.entries from) old now r) went.idle.input put

  -- a write of the line's entries was refused, or memory ran out
  pub cut-line : GivesLeast says → (why : SinkRefusal) → PutsWork (text_from names new.input new.entries from) old now (Err why) → WritesLine how says i names b new old now (Err why)
  cut-line gives why put = λ start w. record {
    written = tt;
    more = tt;
    cut = cut-on how says i b new came went names start old now w here gives why (there (Err why) put);
    counted = work-since (Unit {0}) Bool start old now why w.failures w.refusals put.counted;
  }

  -- the line's entries were written
  pub written-line : PutsWork (text_from names new.input new.entries from) old now (Ok tt) → WritesLine how says i names b new old now (Ok (nat_lt from (length new.entries)))
  written-line put = λ start w.
      let done : IsWritten how says i names new start now = written-on how says i b new came went names start old now w here (there (Ok tt) put) in
      record { written = done; more = no-more how says i b new came went; cut = tt; counted = (done.failures, done.refusals) }

-- the line's entries were written or cut off
pub line-written : (how : Turns) (says : Says) (i : Input) (names : Table) (b new : Shown) (came : Advanced) (old now : SinkView) → GivesLeast says
    → Advances how says i b new came → IsHistory new.input new.entries → (r : Result Bool SinkRefusal) → PutsMore (text_from names new.input new.entries came.from) old now r
    → IfOk r (λ more. more ≡ nat_lt came.from (length new.entries)) → WritesLine how says i names b new old now r
line-written how says i names b new came old now gives went history (Ok more) put is =
    subst (λ m. WritesLine how says i names b new old now (Ok m)) (sym is)
    (written-line how says i names b new came old now went history (record { whole = put.whole; prefix = tt; stop = tt; counted = put.counted }))
line-written how says i names b new came old now gives went history (Err why) put is =
    cut-line how says i names b new came old now went history gives why
    (record { whole = tt; prefix = put.prefix; stop = put.stop; counted = work-since Bool (Unit {0}) old old now why refl refl put.counted })

-- ---- all lines

-- a board on which a session may go on
pub idle-now : (i : Input) (b : Shown) → IsIdle i b → IsIdle b.input b
idle-now i b idle = record { input = refl; rest = idle.rest; closed = idle.closed }

-- a line of the input that is the board's
pub line-of : (how : Turns) (says : Says) (i : Input) (names : Table) (b new : Shown) (start old now : SinkView) (r : Result Bool SinkRefusal) → IsWritten how says i names b start old
    → WritesLine how says b.input names b new old now r → WritesOn how says i names new start now r
line-of how says i names b new start old now r w line = subst (λ j. WritesLine how says j names b new old now r) w.idle.input line start w

module _ (how : Turns) (i : Input) (names : Table) (b : Shown) (start now : SinkView) where
  pub head-cut : (why : SinkRefusal) → PutsWork (head_text (Some (settings_of i))) start now (Err why) → WritesLines how i names b start now (Err why)
  head-cut why put = record { input = tt; journal = tt; text = tt; cut = cut-head how i names start now why put; counted = work-since (Unit {0}) (Unit {0}) start start now why refl refl put.counted }

  pub line-cut : (says : Says) (why : SinkRefusal) → WritesOn how says i names b start now (Err why) → WritesLines how i names b start now (Err why)
  line-cut says why on = record { input = tt; journal = tt; text = tt; cut = on.cut; counted = work-since Bool (Unit {0}) start start now why refl refl on.counted }

  pub lines-done : (says : Says) (more : Bool) → GivesLeast says → more ≡ false → WritesOn how says i names b start now (Ok more) → WritesLines how i names b start now (Ok tt)
  lines-done says more gives done on = record {
    input = on.written.idle.input;
    journal = journal-of how says i b.entries gives on.written.begun on.written.history (on.more done) on.written.idle.closed;
    text = on.written.text;
    cut = tt;
    counted = (on.written.failures, on.written.refusals);
  }

  -- ---- the session

  pub session-cut : (why : SinkRefusal) → WritesLines how i names b start now (Err why) → RunsTo how i names start now (Err why)
  session-cut why w = record { input = tt; done = tt; cut = w.cut; counted = work-since (Unit {0}) Shown start start now why refl refl w.counted }

  pub session-done : AreNames names → IsSound i → WritesLines how i names b start now (Ok tt) → RunsTo how i names start now (Ok b)
  session-done table sound w =
      let session : IsSession how i names (journal_text names i b.entries) (status_of b.entries) = record {
        journal = b.entries;
        entries = histories_are_read_back (Some (settings_of i)) names i b.entries (AreLines-names names table) sound w.journal.history;
        text = refl;
        is = w.journal;
        answer = refl;
      } in
      record { input = w.input; done = ((journal_text names i b.entries, w.text, session), refl); cut = tt; counted = w.counted }

  -- the status of a session whose board is given back
  pub run-done : (status : ℕ) → status ≡ status_of b.entries → RunsTo how i names start now (Ok b) → Runs how i names start now (Ok status)
  run-done status answer r = record {
    done = subst (IsDone how i names start.bytes now.bytes) (sym answer) r.done.0;
    cut = tt;
    counted = r.counted;
  }

pub run-cut : (how : Turns) (i : Input) (names : Table) (start now : SinkView) (why : SinkRefusal) → RunsTo how i names start now (Err why) → Runs how i names start now (Err why)
run-cut how i names start now why r = record { done = tt; cut = r.cut; counted = work-since Shown ℕ start start now why refl refl r.counted }

-- the head was written of a session of which nothing was done
pub lines-begun : (how : Turns) (says : Says) (i : Input) (names : Table) (b : Shown) (start now : SinkView) → b ≡ nothing_done i → PutsWork (head_text (Some (settings_of i))) start now (Ok tt) → IsWritten how says i names b start now
lines-begun how says i names b start now fresh put = written-first how says i names b start now (idle-first i b fresh) (ap (λ (s : Shown). s.entries) fresh) put

-- memory ran out before anything was written
pub unrun : (how : Turns) (i : Input) (names : Table) (s : SinkView) → RunsTo how i names s s (Err sink.OutOfMemory)
unrun how i names s = record { input = tt; done = tt; cut = cut-nothing how i names s; counted = refl }
