-- What a session with reports comes to.
use Rattle.std.specs.Prelude.{◌≡◌, ℕ, List, Option, Result, IfOk}
use Rattle.ps_world.specs.Names.{Table}
use Rattle.ps_rules.specs.History.{status_of}
use Rattle.ps_machine.specs.declared.inputs.Input.{Input}
use Rattle.ps_machine.specs.declared.journal.Entry.{Entry}
use Rattle.ps_text.specs.Outside.{SinkView}
use Rattle.ps_text.specs.Work.{DoesWork}
use Rattle.ps_text.specs.declared.sinks.SinkRefusal.{SinkRefusal}
use Rattle.ps_hub.specs.declared.report.Report.{Report}
use Rattle.ps_report_lines.specs.Lines.{report_lines}
use Rattle.ps_session.specs.Session.{IsCut, IsDoneAs}
use Rattle.ps_session.specs.declared.ways.Turns.{Turns}
use Rattle.ps_calls.specs.declared.reported.Reported.{Reported}

-- these are the lines of some reports against this journal
abbrev pub AreLines : Table → Input → List Entry → List ℕ → Type 0
AreLines names i es text = (reports : List Report) × (text ≡ report_lines names i es reports)

-- What a sink took is a whole session, whose status is told; the lines are those of some reports against its journal, if there was memory for
-- them.
pub record IsReported (how : Turns) (i : Input) (names : Table) (old new : Option (List ℕ)) (r : Reported) : Type 0 where
  pub journal : List Entry
  pub done : IsDoneAs how i names old new journal
  pub status : r.status ≡ status_of journal
  pub lines : IfOk r.lines (λ text. AreLines names i journal text.items)

-- Doing a session with reports: it is done and there are lines for its reports, or it is broken off, as one without reports is.
abbrev pub RunsReported : Turns → Input → Table → SinkView → SinkView → Result Reported SinkRefusal → Type 0
RunsReported how i names old new = DoesWork (IsReported how i names old.bytes new.bytes) (IsCut how i names old new) old new
