-- A session that is written as it goes on.
use Rattle.std.proofs.Common.{◌≡◌, ◌≢◌, ℕ, ◌==◌, ◌⊎◌, inl, inr, Bool, true, false, Some, None, Result, Ok, Err, List, [], ◌++◌, drop, length, length-append, nat_lt, ◌+◌, ◌≤◌, refl, arith, ap, sym, ◌∙◌, subst, append-nil}
use Rattle.std.specs.Io.KnownBytes.{Appends}
use Rattle.std.proofs.KnownBytes.{Appends-trans}
use Rattle.std.proofs.lemmas.Bool.Decides.{nat_tests}
use Rattle.std.proofs.lemmas.Bool.{eq-eqb, eqb-true, true≢false}
use Rattle.ps_world.specs.Names.{Table}
use Rattle.ps_action.specs.Search.{answer}
use Rattle.ps_machine.specs.declared.inputs.Input.{Input}
use Rattle.ps_machine.specs.declared.journal.Entry.{Entry}
use Rattle.ps_rules.specs.Choices.{Says}
use Rattle.ps_rules.specs.History.{IsHistory}
use Rattle.ps_rules.specs.History.IsHistory.{nothing}
use Rattle.ps_rules.specs.Heads.{head_text, settings_of}
use Rattle.ps_rules.specs.Journal.{journal_text}
use Rattle.ps_rules.specs.Lines.{next_line}
use Rattle.ps_rules.specs.Runs.{is_running}
use Rattle.ps_rules.proofs.JournalTexts.{journal_text-append}
use Rattle.ps_text.specs.Outside.{AppendsPrefix, Counts, CountsWork, next, Puts, SinkView}
use Rattle.ps_text.specs.declared.sinks.SinkRefusal.{SinkRefusal}
use Rattle.ps_text.specs.declared.sinks.SinkRefusal.TheVariants as sink
use Rattle.ps_board.specs.declared.board.Shown.{Shown}
use Rattle.ps_replies.specs.Plans.{GivesLeast}
use Rattle.ps_session.specs.Answers.{AskAtEnd}
use Rattle.ps_session.specs.Lines.{acts_in, Advances, AsksFor, EachAfter, IsBegun, IsIdle, IsToldBy, IsWritten, PutsWork, text_from}
use Rattle.ps_session.specs.declared.lines.Advanced.{Advanced}
use Rattle.ps_session.specs.Session.{IsCut}
use Rattle.ps_session.specs.Session.Stops.{at_end, at_refusal, at_start}
use Rattle.ps_session.specs.declared.ways.Turns.{Turns}
use Rattle.ps_session.proofs.Begun.{beginning-first, beginning-of, begun-next, begun-start, same-solver}
use Rattle.ps_session.proofs.Told.{each-since}
use Rattle.ps_session.proofs.Taken.{AppendsPrefix-all, AppendsPrefix-append, AppendsPrefix-nil}
use Rattle.ps_session.proofs.AddedTexts.{since-dropped, text-since}

-- ---- counts

-- a refused write breaks work off
pub counts-work : (A B : Type 0) (old new : SinkView) (why : SinkRefusal) → Counts {A = A} old new (Err why) → CountsWork {A = B} old new (Err why)
counts-work A B old new sink.Failed h = h
counts-work A B old new sink.OutOfMemory h = h.0

-- work that is broken off is so from an earlier moment with the same counts
pub work-since : (A B : Type 0) (a b c : SinkView) (why : SinkRefusal) → b.failed ≡ a.failed → b.refused ≡ a.refused → CountsWork {A = A} b c (Err why) → CountsWork {A = B} a c (Err why)
work-since A B a b c sink.Failed f r h = (h.0 ∙ ap next f, h.1 ∙ ap next r)
work-since A B a b c sink.OutOfMemory f r h = h ∙ f

-- a refused write is counted
refused-once : (A : Type 0) (old new : SinkView) (why : SinkRefusal) → Counts {A = A} old new (Err why) → new.refused ≡ next old.refused
refused-once A old new sink.Failed h = h.1
refused-once A old new sink.OutOfMemory h = h.1

-- a text that was put
pub put-work : (text : List ℕ) (old new : SinkView) (r : Result (Unit {0}) SinkRefusal) → Puts text old new r → PutsWork text old new r
put-work text old new (Ok u) p = record { whole = p.whole; prefix = tt; stop = tt; counted = p.counted }
put-work text old new (Err why) p = record {
  whole = tt;
  prefix = p.prefix;
  stop = inl (refused-once (Unit {0}) old new why p.counted);
  counted = counts-work (Unit {0}) (Unit {0}) old new why p.counted;
}

-- memory ran out before there was a text
pub textless : (text : List ℕ) (s : SinkView) → PutsWork text s s (Err sink.OutOfMemory)
textless text s = record { whole = tt; prefix = AppendsPrefix-nil s.bytes text; stop = inr refl; counted = refl }

-- ---- what is broken off

-- the whole text of a journal was written by then
pub cut-after : (how : Turns) (says : Says) (i : Input) (names : Table) (b : Shown) (start now : SinkView) → GivesLeast says → IsBegun how says i b.entries
    → IsHistory i b.entries → is_running b.entries ≡ false → Appends start.bytes now.bytes (journal_text names i b.entries) → IsCut how i names start now
cut-after how says i names b start now gives begun history closed text = record {
  journal = b.entries;
  begins = beginning-of how says i b.entries gives begun history closed;
  text = AppendsPrefix-all start.bytes now.bytes (journal_text names i b.entries) text;
  stop = at_end text;
}

-- memory ran out between lines
pub cut-between : (how : Turns) (says : Says) (i : Input) (names : Table) (b : Shown) (start now : SinkView) → GivesLeast says
    → IsWritten how says i names b start now → IsCut how i names start now
cut-between how says i names b start now gives w = cut-after how says i names b start now gives w.begun w.history w.idle.closed w.text

-- ---- one line

decide : (m n : ℕ) → (m ≡ n) ⊎ (m ≢ n)
decide m n = by-test (m == n) refl where
  by-test : (b : Bool) → (m == n) ≡ b → (m ≡ n) ⊎ (m ≢ n)
  by-test true e = inl (eqb-true m n e)
  by-test false e = inr (λ same. true≢false (sym (eq-eqb m n same) ∙ e))

module _ (how : Turns) (says : Says) (i : Input) (b new : Shown) (came-by : Advanced) (went : Advances how says i b new came-by) where
  abbrev from : ℕ
  from = came-by.from

  -- the entries that came since
  pub record Came : Type 0 where
    pub since : List Entry
    pub grown : new.entries ≡ b.entries ++ since
    pub asks : AskAtEnd since

  pub came : Came
  came =
      elim (decide from (length new.entries)) [
        | inl same ↦ record { since = []; grown = ap (λ (s : Shown). s.entries) (went.end same).1 ∙ sym (append-nil b.entries); asks = tt }
        | inr other ↦ let line = went.line other in record { since = line.since; grown = line.grown; asks = line.asks }
      ]

  -- of them none but the last asks
  pub asks-since : AskAtEnd (drop from new.entries)
  asks-since =
      subst AskAtEnd (sym (ap (λ n. drop n new.entries) went.place ∙ since-dropped b.entries new.entries came.since came.grown)) came.asks

  -- the query for a plan, if it is among them, is answered by the plan that came
  pub told-since : GivesLeast says → (k : ℕ) → from ≤ k → AsksFor i new.entries (acts_in came-by.plan) k
  told-since gives k l = λ e at.
      let plan = acts_in came-by.plan in
      let place = went.place in
      each-since (IsToldBy answer i plan) b.entries new.entries came.since k e came.grown (omega (arith, l, place))
      (subst (λ s. EachAfter (IsToldBy s i plan) b.entries (drop (length b.entries) new.entries)) (same-solver says gives) went.told) at

  -- it is begun
  pub begun-on : IsBegun how says i b.entries → IsBegun how says i new.entries
  begun-on begun =
      elim (decide from (length new.entries)) [
        | inl same ↦ subst (IsBegun how says i) (sym (ap (λ (s : Shown). s.entries) (went.end same).1)) begun
        | inr other ↦ begun-next how says i b.entries new.entries begun (went.line other)
      ]

  -- where nothing came, no line is left
  pub no-line-left : from ≡ length new.entries → next_line i new.entries ≡ None
  no-line-left same = let ended = went.end same in subst (λ (s : Shown). next_line i s.entries ≡ None) (sym ended.1) ended.0

  -- it came, or nothing did
  pub no-more : nat_lt from (length new.entries) ≡ false → next_line i new.entries ≡ None
  no-more test =
      let len : length new.entries ≡ length b.entries + length came.since = ap length came.grown ∙ length-append b.entries came.since in
      let place = went.place in
      let past : length new.entries ≤ from = grind (arith, nat_tests) in
      no-line-left (omega (arith, len, place, past))

  module _ (names : Table) (start old now : SinkView) (w : IsWritten how says i names b start old) (history : IsHistory i new.entries) where
    -- the journal's text, as it has grown
    text-grown : journal_text names i new.entries ≡ journal_text names i b.entries ++ text_from names i new.entries from
    text-grown =
        ap (journal_text names i) came.grown ∙ journal_text-append names i b.entries came.since
        ∙ ap (λ text. journal_text names i b.entries ++ text)
        (sym (ap (text_from names i new.entries) went.place ∙ text-since names i b.entries new.entries came.since came.grown))

    -- it is written
    pub written-on : PutsWork (text_from names i new.entries from) old now (Ok tt) → IsWritten how says i names new start now
    written-on put = record {
      idle = went.idle;
      begun = begun-on w.begun;
      history = history;
      text = subst (Appends start.bytes now.bytes) (sym text-grown)
          (Appends-trans start.bytes old.bytes now.bytes (journal_text names i b.entries) (text_from names i new.entries from) w.text put.whole);
      failures = put.counted.0 ∙ w.failures;
      refusals = put.counted.1 ∙ w.refusals;
    }

    -- it is cut off: a write of the line's entries was refused, or memory ran out before
    pub cut-on : GivesLeast says → (why : SinkRefusal) → PutsWork (text_from names i new.entries from) old now (Err why) → IsCut how i names start now
    cut-on gives why put =
        elim put.stop [
          | inl once ↦
              record {
                journal = new.entries;
                begins = beginning-of how says i new.entries gives (begun-on w.begun) history went.idle.closed;
                text = subst (AppendsPrefix start.bytes now.bytes) (sym text-grown)
                    (AppendsPrefix-append start.bytes old.bytes now.bytes (journal_text names i b.entries) (text_from names i new.entries from) w.text put.prefix);
                stop = at_refusal (once ∙ ap next w.refusals);
              }
          | inr same ↦
              cut-after how says i names b start now gives w.begun w.history w.idle.closed
              (subst (λ bytes. Appends start.bytes bytes (journal_text names i b.entries)) (sym same) w.text)
        ]

-- ---- the beginning

-- the head is written
pub written-first : (how : Turns) (says : Says) (i : Input) (names : Table) (b : Shown) (start now : SinkView) → IsIdle i b → b.entries ≡ []
    → PutsWork (head_text (Some (settings_of i))) start now (Ok tt) → IsWritten how says i names b start now
written-first how says i names b start now idle none put = record {
  idle = idle;
  begun = subst (IsBegun how says i) (sym none) (begun-start how says i);
  history = subst (IsHistory i) (sym none) nothing;
  text = subst (λ es. Appends start.bytes now.bytes (journal_text names i es)) (sym none)
      (subst (Appends start.bytes now.bytes) (sym (append-nil (head_text (Some (settings_of i))))) put.whole);
  failures = put.counted.0;
  refusals = put.counted.1;
}

-- nothing is written
pub cut-nothing : (how : Turns) (i : Input) (names : Table) (s : SinkView) → IsCut how i names s s
cut-nothing how i names s = record { journal = []; begins = beginning-first how i; text = AppendsPrefix-nil s.bytes _; stop = at_start refl }

-- the head is cut off: its write was refused, or memory ran out before
pub cut-head : (how : Turns) (i : Input) (names : Table) (start now : SinkView) (why : SinkRefusal) → PutsWork (head_text (Some (settings_of i))) start now (Err why)
    → IsCut how i names start now
cut-head how i names start now why put = record {
  journal = [];
  begins = beginning-first how i;
  text = subst (AppendsPrefix start.bytes now.bytes) (sym (append-nil (head_text (Some (settings_of i))))) put.prefix;
  stop = elim put.stop [ inl once ↦ at_refusal once | inr same ↦ at_start same ];
}
