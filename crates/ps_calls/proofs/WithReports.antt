-- Sessions with reports.
use Rattle.std.proofs.Common.{◌≡◌, ◌∙◌, ℕ, List, Result, Ok, Err, IfOk, ap}
use Rattle.std.proofs.lemmas.Result.{IfOk-weaker}
use Rattle.ps_world.specs.Names.{Table}
use Rattle.ps_machine.specs.declared.inputs.Input.{Input}
use Rattle.ps_rules.specs.History.{status_of}
use Rattle.ps_text.specs.Outside.{CountsWork, SinkView}
use Rattle.ps_text.specs.declared.sinks.SinkRefusal.{SinkRefusal}
use Rattle.ps_text.specs.declared.sinks.SinkRefusal.TheVariants.{Failed, OutOfMemory}
use Rattle.ps_hub.specs.declared.report.Report.{Report}
use Rattle.ps_board.specs.declared.board.Shown.{Shown}
use Rattle.ps_report_lines.specs.Lines.{report_lines}
use Rattle.ps_session.specs.Session.{RunsTo}
use Rattle.ps_session.specs.declared.ways.Turns.{Turns}
use Rattle.ps_session.proofs.Whole.{unrun}
use Rattle.ps_calls.specs.Reported.{RunsReported}
use Rattle.ps_calls.specs.declared.reported.Reported.{Reported}

-- counts of work that is broken off say nothing of what it would have given
pub cut-counts : (A B : Type 0) (old new : SinkView) (why : SinkRefusal) → CountsWork {A = A} old new (Err why) → CountsWork {A = B} old new (Err why)
cut-counts A B old new Failed h = h
cut-counts A B old new OutOfMemory h = h

module _ (how : Turns) (i : Input) (names : Table) (old new : SinkView) where
  -- a session that is done, whose reports these are
  pub reported-done : (b : Shown) (d : Reported) (rs : List Report) → RunsTo how i names old new (Ok b) → d.status ≡ status_of b.entries
      → IfOk d.lines (λ text. text.items ≡ report_lines names b.input b.entries rs) → RunsReported how i names old new (Ok d)
  reported-done b d rs r status lines = record {
    done = record {
      journal = b.entries;
      done = r.done;
      status = status;
      lines = IfOk-weaker d.lines _ _ (λ text h. (rs, h ∙ ap (λ j. report_lines names j b.entries rs) r.input)) lines;
    };
    cut = tt;
    counted = r.counted;
  }

  -- a session that is broken off
  pub reported-cut : (why : SinkRefusal) → RunsTo how i names old new (Err why) → RunsReported how i names old new (Err why)
  reported-cut why r = record { done = tt; cut = r.cut; counted = cut-counts Shown Reported old new why r.counted }

-- memory ran out before the session began
pub unreported : (how : Turns) (i : Input) (names : Table) (s : SinkView) → RunsReported how i names s s (Err OutOfMemory)
unreported how i names s = reported-cut how i names s s OutOfMemory (unrun how i names s)
