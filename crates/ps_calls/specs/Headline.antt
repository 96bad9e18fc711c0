-- What a call of the program claims.
use Rattle.std.specs.Prelude.{◌≡◌, ℕ, ◌⊎◌, Bool, true, false, if◌then◌else◌, Option, List, [], Result, Ok, Err, IfOk}
use Rattle.std.specs.Global.{Vec}
use Rattle.std.specs.Io.KnownBytes.{Appends}
use Rattle.ps_world.specs.Names.{Table}
use Rattle.ps_world.specs.declared.domains.Domain.{Domain}
use Rattle.ps_machine.specs.declared.inputs.Line.{Line}
use Rattle.ps_world.specs.DomainTexts.{domain_text}
use Rattle.ps_world.specs.declared.failures.Failure.{Failure}
use Rattle.ps_world.specs.declared.failures.Failure.TheVariants as failure
use Rattle.ps_text.specs.Outside.{AppendsPrefix, FilesView, Puts, SinkView}
use Rattle.ps_text.specs.Work.{DoesWork}
use Rattle.ps_text.specs.declared.sinks.SinkRefusal.{SinkRefusal}
use Rattle.ps_text.specs.declared.sinks.SinkRefusal.TheVariants.{Failed, OutOfMemory}
use Rattle.ps_validate.specs.Verdicts.{known_after, verdict}
use Rattle.ps_validate.specs.declared.verdicts.Invalid.{Invalid}
use Rattle.ps_inputs.specs.Faults.{Loads, fault_line, fault_status}
use Rattle.ps_inputs.specs.Input.{cannot_write_line, out_of_memory_line}
use Rattle.ps_inputs.specs.declared.faults.Fault.{Fault}
use Rattle.ps_inputs.specs.declared.works.Editing.{Editing}
use Rattle.ps_inputs.specs.declared.works.Planning.{Planning}
use Rattle.ps_inputs.specs.declared.works.Replay.{Replay}
use Rattle.ps_inputs.specs.declared.works.Session.{Session}
use Rattle.ps_inputs.specs.declared.works.Validation.{Validation}
use Rattle.ps_inputs.specs.declared.works.Work.{Work}
use Rattle.ps_inputs.specs.declared.works.Work.TheVariants as work
use Rattle.ps_session.specs.Session.{IsCut, IsDone, IsJournal}
use Rattle.ps_session.specs.declared.ways.Turns.{Turns}
use Rattle.ps_session.specs.declared.ways.Turns.TheVariants.{InOrder, Workers}
use Rattle.ps_gen.specs.Summary.{summary_text}
use Rattle.ps_rules.specs.History.{status_of}
use Rattle.ps_machine.specs.declared.inputs.Input.{Input}
use Rattle.ps_machine.specs.declared.journal.Entry.{Entry}
use Rattle.ps_audit.specs.Findings.{Finds as FindsJournal, finding_status, IsAnswer}
use Rattle.ps_hub.specs.declared.report.Report.{Report}
use Rattle.ps_report_lines.specs.Lines.{report_lines}
use Rattle.ps_audit.specs.declared.findings.Finding.{Finding}
use Rattle.ps_planned.specs.Planned.{plan_told}
use Rattle.ps_editing.specs.Lines.{EditLine, worded}
use Rattle.ps_editing.specs.Runs.{IsEdited, IsEditedInPart}
use Rattle.ps_calls.specs.Verdicts.{verdict_line, verdict_status}

-- ---- doing the work

-- what is wrong with the text of a plan after the edits of these lines, if something is, and the table of names that says it
abbrev pub verdict_after : Domain → List Line → Table → List ℕ → Option Invalid × Table
verdict_after d lines names plan = verdict d (known_after d lines) names plan

-- judging a plan comes to this, with this table of names after it
abbrev pub Finds : {E : Type 0} → Option Invalid × Table → Table → Result (Option Invalid) E → Type 0
Finds v after r = IfOk r (λ wrong. (wrong, after) ≡ v)

-- what a plan that is to be validated is worth
abbrev pub verdict_of : Validation → Option Invalid × Table
verdict_of v = verdict_after v.input.domain v.input.lines v.names v.plan.items

-- the line that a plan is answered with
abbrev pub answer_line : Option Invalid × Table → List ℕ
answer_line v = verdict_line v.1 v.0

-- what three planners tell after the edits of these lines, with this budget, and the status of it
abbrev pub plan_after : Domain → List Line → Table → ℕ → List ℕ × ℕ
plan_after d lines names budget = plan_told d (known_after d lines) names budget

-- what they tell of a problem that is to be planned
abbrev pub plan_of : Planning → List ℕ × ℕ
plan_of p = plan_after p.input.domain p.input.lines p.names p.input.budget

-- this is what a journal that is to be judged is found to be
abbrev pub IsFound : Replay → Finding → Type 0
IsFound r f = FindsJournal r.input r.names r.journal.items f

-- this is what is to be written for a journal that is found to be this: the line that says so, or, where it is to be written anew and is legal,
-- the text of its entries
abbrev pub IsReply : Replay → Finding → List ℕ → Type 0
IsReply r f out = IsAnswer r.input r.names r.journal.items r.migrates f out

-- how the members of a session's runs take their turns: in order where that is said, else as so many workers take them
abbrev pub turns_of : Session → Turns
turns_of s = if s.ordered then InOrder else Workers s.workers

-- the counts of the journal of a session with so many carts, whose members take turns in order, are written, with the status of that journal
abbrev pub IsCountDone : Input → ℕ → Option (List ℕ) → Option (List ℕ) → ℕ → Type 0
IsCountDone i carts old new status =
    (journal : List Entry) × IsJournal InOrder i journal × (status ≡ status_of journal) × Appends old new (summary_text carts journal)

-- a prefix of these counts is written, or nothing before there is such a journal
abbrev pub IsCountCut : Input → ℕ → Option (List ℕ) → Option (List ℕ) → Type 0
IsCountCut i carts old new =
    AppendsPrefix old new [] ⊎ ((journal : List Entry) × IsJournal InOrder i journal × AppendsPrefix old new (summary_text carts journal))

-- the lines of an editor, each with what it says to an editor alone
abbrev pub edit_lines : Editing → List EditLine
edit_lines e = worded e.lines.items e.words.items

-- The work is done, with this status: a session writes the text of its journal, whose status it is, and a generation the counts of such a
-- journal, with the status of that; a check writes the domain's canonical text, a validation the line that says what the plan is worth, a
-- planning what three planners tell, a replay the line that says what the journal is found to be, or a legal journal anew, and an editor the text of its run, whose status it is.
abbrev pub IsWorkDone : Work → Option (List ℕ) → Option (List ℕ) → ℕ → Type 0
IsWorkDone (work.Session s) old new status = IsDone (turns_of s) s.input s.names old new status
IsWorkDone (work.Generation g) old new status = IsCountDone g.input g.carts old new status
IsWorkDone (work.Check c) old new status = (status ≡ 0) × Appends old new (domain_text c.names c.domain)
IsWorkDone (work.Validation v) old new status =
    (status ≡ verdict_status (verdict_of v).0) × Appends old new (answer_line (verdict_of v))
IsWorkDone (work.Planning p) old new status = (status ≡ (plan_of p).1) × Appends old new (plan_of p).0
IsWorkDone (work.Replay r) old new status =
    (f : Finding) × (out : List ℕ) × IsFound r f × IsReply r f out × (status ≡ finding_status f) × Appends old new out
IsWorkDone (work.Editing e) old new status = IsEdited e.domain e.names (edit_lines e) old new status

-- The work is broken off: what it wrote is a prefix of the text of a beginning of a session's journal, of a journal's counts, of the domain's
-- text, of the line of a plan or of a journal, of what planners tell, or of the run of an editor's first lines; before a journal is made that is counted, or it is found what a journal is, nothing is
-- written.
abbrev pub IsWorkCut : Work → SinkView → SinkView → Type 0
IsWorkCut (work.Session s) old new = IsCut (turns_of s) s.input s.names old new
IsWorkCut (work.Generation g) old new = IsCountCut g.input g.carts old.bytes new.bytes
IsWorkCut (work.Check c) old new = AppendsPrefix old.bytes new.bytes (domain_text c.names c.domain)
IsWorkCut (work.Validation v) old new = AppendsPrefix old.bytes new.bytes (answer_line (verdict_of v))
IsWorkCut (work.Planning p) old new = AppendsPrefix old.bytes new.bytes (plan_of p).0
IsWorkCut (work.Replay r) old new =
    AppendsPrefix old.bytes new.bytes [] ⊎ ((f : Finding) × (out : List ℕ) × IsFound r f × IsReply r f out × AppendsPrefix old.bytes new.bytes out)
IsWorkCut (work.Editing e) old new = IsEditedInPart e.domain e.names (edit_lines e) old.bytes new.bytes

-- Doing the work: it is done, with the status that is answered, or broken off, where a write was refused or memory ran out.
abbrev pub Performs : Work → SinkView → SinkView → Result ℕ SinkRefusal → Type 0
Performs w old new = DoesWork (IsWorkDone w old.bytes new.bytes) (IsWorkCut w old new) old new

-- doing the session of an input in memory, and writing the counts of its journal
abbrev pub CountsSession : Input → ℕ → SinkView → SinkView → Result ℕ SinkRefusal → Type 0
CountsSession i carts old new = DoesWork (IsCountDone i carts old.bytes new.bytes) (IsCountCut i carts old.bytes new.bytes) old new

-- work that always returns
abbrev pub IsQuiet : Work → Type 0
IsQuiet (work.Session s) = ⊥
IsQuiet (work.Generation g) = ⊥
IsQuiet (work.Planning p) = ⊥
IsQuiet w = Unit {0}

-- Writing a text: all of it, with this status, or a prefix of it, where a write was refused or memory ran out.
abbrev pub WritesWithStatus : List ℕ → ℕ → SinkView → SinkView → Result ℕ SinkRefusal → Type 0
WritesWithStatus text status old new =
    DoesWork (λ s. (s ≡ status) × Appends old.bytes new.bytes text) (AppendsPrefix old.bytes new.bytes text) old new

-- ---- telling why it isn't done

-- a sink takes a line, or, where a write to it is refused, a prefix of it
abbrev pub Says : List ℕ → SinkView → SinkView → Type 0
Says line old new = (r : Result (Unit {0}) SinkRefusal) × Puts line old new r

-- telling that a write failed or that memory ran out, with the status of that
abbrev pub GivesUp : SinkRefusal → SinkView → SinkView → ℕ → Type 0
GivesUp Failed old new status = (status ≡ 5) × Says cannot_write_line old new
GivesUp OutOfMemory old new status = (status ≡ 6) × Says out_of_memory_line old new

-- Telling a text to a sink: it is told, and the call ends with this status; or a write was refused, since writing failed or memory ran out; or
-- there was no memory for the text.
pub data Informs (text : List ℕ) (done : ℕ) (old new : SinkView) : ℕ → Type 0 where
  told : Puts text old new (Ok tt) → Informs text done old new done
  unwritten : Puts text old new (Err Failed) → Informs text done old new 5
  starved : Puts text old new (Err OutOfMemory) → Informs text done old new 6
  wordless : Says out_of_memory_line old new → Informs text done old new 6

-- telling a fault: its line, with its status
abbrev pub Reports : Fault → SinkView → SinkView → ℕ → Type 0
Reports f old new status = Informs (fault_line f) (fault_status f) old new status

-- telling a text for which there may be no memory
abbrev pub InformsOf : {E : Type 0} → Result (Vec ℕ) E → ℕ → SinkView → SinkView → ℕ → Type 0
InformsOf r done old new status = (text : List ℕ) → IfOk r (λ v. v.items ≡ text) → Informs text done old new status

-- ending a call whose work came to this
abbrev pub Finishes : Result ℕ SinkRefusal → SinkView → SinkView → ℕ → Type 0
Finishes (Ok done) old new status = (status ≡ done) × (new ≡ old)
Finishes (Err why) old new status = GivesUp why old new status

-- telling why there is no work
abbrev pub Refuses : Failure Fault → SinkView → SinkView → ℕ → Type 0
Refuses (failure.Refused f) old new status = Reports f old new status
Refuses failure.OutOfMemory old new status = (status ≡ 6) × Says out_of_memory_line old new

-- ---- reports

-- whether the reports of this work are told
abbrev pub has_reports : Work → Bool
has_reports (work.Session s) = s.reports
has_reports w = false

-- the lines of these reports against the journal of a session that is done
abbrev pub lines_of : (s : Session) (old new : SinkView) (status : ℕ) → Performs (work.Session s) old new (Ok status) → List Report → List ℕ
lines_of s old new status p reports = report_lines s.names s.input p.done.2.journal reports

-- Doing work, and telling what is to be told: nothing of work that is done and has no reports; the reports of a session that has them; why work
-- is broken off.
pub data Ends (w : Work) (out out' err err' : SinkView) : ℕ → Type 0 where
  silent : (status : ℕ) → has_reports w ≡ false → Performs w out out' (Ok status) → err' ≡ err → Ends w out out' err err' status
  telling : (s : Session) (done status : ℕ) → w ≡ work.Session s → s.reports ≡ true → (p : Performs (work.Session s) out out' (Ok done))
      (reports : List Report) → Informs (lines_of s out out' done p reports) done err err' status → Ends w out out' err err' status
  cut : (why : SinkRefusal) (status : ℕ) → Performs w out out' (Err why) → GivesUp why err err' status → Ends w out out' err err' status

-- ---- the headline

-- what files, `out` and `err` show at a moment
pub record Moment : Type 0 where
  pub files : FilesView
  pub out : SinkView
  pub err : SinkView

-- a call: its words, and what is shown before and after it
pub record Call : Type 0 where
  pub words : List (List ℕ)
  pub before : Moment
  pub after : Moment

-- the moment at which this is shown
abbrev pub moment : FilesView → SinkView → SinkView → Moment
moment files out err = record { files = files; out = out; err = err }

-- the call of these words between two moments
abbrev pub call_of : List (List ℕ) → Moment → Moment → Call
call_of words before after = record { words = words; before = before; after = after }

-- loading the work of a call comes to this
abbrev pub LoadsAs : Call → Result Work (Failure Fault) → Type 0
LoadsAs c r = Loads c.words c.before.files c.after.files r

-- doing this work in a call comes to this
abbrev pub PerformsAs : Call → Work → Result ℕ SinkRefusal → Type 0
PerformsAs c w r = Performs w c.before.out c.after.out r

-- The headline: a row for each way in which a call can end, with its status.
pub data Answers (c : Call) : ℕ → Type 0 where
  done : (w : Work) (status : ℕ) → LoadsAs c (Ok w) → PerformsAs c w (Ok status) → has_reports w ≡ false
      → c.after.err ≡ c.before.err → Answers c status
  reported : (s : Session) (done status : ℕ) → LoadsAs c (Ok (work.Session s)) → s.reports ≡ true → (p : PerformsAs c (work.Session s) (Ok done))
      (reports : List Report) → Informs (lines_of s c.before.out c.after.out done p reports) done c.before.err c.after.err status → Answers c status
  at_fault : (f : Fault) (status : ℕ) → LoadsAs c (Err (failure.Refused f)) → c.after.out ≡ c.before.out
      → Reports f c.before.err c.after.err status → Answers c status
  cannot_write : (w : Work) → LoadsAs c (Ok w) → PerformsAs c w (Err Failed)
      → Says cannot_write_line c.before.err c.after.err → Answers c 5
  starved_at_work : (w : Work) → LoadsAs c (Ok w) → PerformsAs c w (Err OutOfMemory)
      → Says out_of_memory_line c.before.err c.after.err → Answers c 6
  starved_before : LoadsAs c (Err failure.OutOfMemory) → c.after.out ≡ c.before.out
      → Says out_of_memory_line c.before.err c.after.err → Answers c 6
