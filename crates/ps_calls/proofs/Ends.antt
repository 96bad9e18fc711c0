-- How a call ends, by what its work came to.
use Rattle.std.proofs.Common.{◌≡◌, ℕ, true, false, Some, Result, Ok, Err, IfOk, List, [], refl, sym, subst, ◌∙◌}
use Rattle.std.specs.Global.{Vec}
use Rattle.std.specs.declared.alloc.AllocError.{AllocError}
use Rattle.std.proofs.lemmas.Bool.{true≢false}
use Rattle.ps_world.specs.declared.failures.Failure.{Failure}
use Rattle.ps_world.specs.declared.failures.Failure.TheVariants as failure
use Rattle.ps_machine.specs.declared.journal.Entry.{Entry}
use Rattle.ps_rules.specs.History.{status_of}
use Rattle.ps_text.specs.Outside.{FilesView, SinkView}
use Rattle.ps_text.specs.declared.sinks.SinkRefusal.{SinkRefusal}
use Rattle.ps_text.specs.declared.sinks.SinkRefusal.TheVariants.{Failed, OutOfMemory}
use Rattle.ps_words.specs.Words.{asked_of, Request}
use Rattle.ps_words.specs.Words.Request.{a_generation, a_planning, a_session}
use Rattle.ps_inputs.specs.Faults.{IsLoaded}
use Rattle.ps_inputs.specs.Input.{IsAsked, is_quiet}
use Rattle.ps_inputs.specs.declared.faults.Fault.{Fault}
use Rattle.ps_inputs.specs.declared.works.Generation.{Generation}
use Rattle.ps_inputs.specs.declared.works.Planning.{Planning}
use Rattle.ps_inputs.specs.declared.works.Session.{Session}
use Rattle.ps_inputs.specs.declared.works.Work.{Work}
use Rattle.ps_inputs.specs.declared.works.Work.TheVariants as work
use Rattle.ps_hub.specs.declared.report.Report.{Report}
use Rattle.ps_report_lines.specs.Lines.{report_lines}
use Rattle.ps_calls.specs.Reported.{AreLines, RunsReported}
use Rattle.ps_calls.specs.declared.reported.Reported.{Reported}
use Rattle.ps_calls.specs.Headline.{Answers, Call, Ends, Finishes, GivesUp, Informs, InformsOf, IsQuiet, LoadsAs, Performs, Refuses, has_reports, turns_of}
use Rattle.ps_calls.specs.Headline.Answers.{done, reported, at_fault, cannot_write, starved_at_work, starved_before}
use Rattle.ps_calls.specs.Headline.Ends.{silent, telling, cut}
use Rattle.ps_calls.proofs.Modes.{generation-loud, planning-loud, session-loud}
use Rattle.ps_calls.proofs.WithReports.{cut-counts}

-- the work was done or broken off, and what was to be told was told
pub ended : {c : Call} (w : Work) (status : ℕ) → LoadsAs c (Ok w) → Ends w c.before.out c.after.out c.before.err c.after.err status → Answers c status
ended {c} w _ l (silent status none p e) = done w status l p none e
ended {c} w _ l (telling s d status is on p rs r) = reported s d status (subst (λ v. LoadsAs c (Ok v)) is l) on p rs r
ended {c} w _ l (cut Failed status p h) = subst (Answers c) (sym h.0) (cannot_write w l p h.1)
ended {c} w _ l (cut OutOfMemory status p h) = subst (Answers c) (sym h.0) (starved_at_work w l p h.1)

-- work that has no reports was done or broken off
pub finished : (w : Work) (r : Result ℕ SinkRefusal) (status : ℕ) (out out' err err' : SinkView) → has_reports w ≡ false → Performs w out out' r → Finishes r err err' status
    → Ends w out out' err err' status
finished w (Ok s) status out out' err err' none p h = subst (Ends w out out' err err') (sym h.0) (silent s none p h.1)
finished w (Err why) status out out' err err' none p h = cut why status p h

-- a session with reports was done, and its lines were told or not
pub reports-told : (s : Session) (d : Reported) (status : ℕ) (out out' err err' : SinkView) → s.reports ≡ true → RunsReported (turns_of s) s.input s.names out out' (Ok d)
    → InformsOf d.lines d.status err err' status → Ends (work.Session s) out out' err err' status
reports-told s d status out out' err err' on ran h = by-lines d.lines ran.done.lines h where
  journal : List Entry
  journal = ran.done.journal

  performs : Performs (work.Session s) out out' (Ok (status_of journal))
  performs = record { done = ran.done.done.0; cut = tt; counted = ran.counted }

  -- the lines of these reports were to be told
  of_reports : (rs : List Report) → Informs (report_lines s.names s.input journal rs) d.status err err' status → Ends (work.Session s) out out' err err' status
  of_reports rs h =
      telling s (status_of journal) status refl on performs rs
      (subst (λ es. Informs (report_lines s.names s.input es rs) (status_of journal) err err' status) (sym ran.done.done.1)
      (subst (λ n. Informs (report_lines s.names s.input journal rs) n err err' status) ran.done.status h))

  by-lines : (lines : Result (Vec ℕ) AllocError) → IfOk lines (λ text. AreLines s.names s.input journal text.items) → InformsOf lines d.status err err' status
      → Ends (work.Session s) out out' err err' status
  by-lines (Ok text) are h = of_reports are.0 (h (report_lines s.names s.input journal are.0) are.1)
  by-lines (Err e) are h = of_reports [] (h (report_lines s.names s.input journal []) tt)

-- it was broken off
pub reports-cut : (s : Session) (why : SinkRefusal) (status : ℕ) (out out' err err' : SinkView) → RunsReported (turns_of s) s.input s.names out out' (Err why)
    → GivesUp why err err' status → Ends (work.Session s) out out' err err' status
reports-cut s why status out out' err err' ran h = cut why status (record { done = tt; cut = ran.cut; counted = cut-counts Reported ℕ out out' why ran.counted }) h

-- there was no work
pub refused : {c : Call} (why : Failure Fault) (status : ℕ) → LoadsAs c (Err why) → c.after.out ≡ c.before.out → Refuses why c.before.err c.after.err status → Answers c status
refused {c} (failure.Refused f) status l o h = at_fault f status l o h
refused {c} failure.OutOfMemory status l o h = subst (Answers c) (sym h.0) (starved_before l o h.1)

module _ (ws : List (List ℕ)) (quiet : is_quiet ws ≡ true) where
  no-session : (r : Request) (s : Session) → asked_of ws ≡ Some r → IsAsked r (work.Session s) → ⊥
  no-session (a_session q) s asked kind = true≢false (sym quiet ∙ session-loud ws q asked)
  no-session r s asked kind = kind

  no-generation : (r : Request) (g : Generation) → asked_of ws ≡ Some r → IsAsked r (work.Generation g) → ⊥
  no-generation (a_generation n) g asked kind = true≢false (sym quiet ∙ generation-loud ws n asked)
  no-generation r g asked kind = kind

  no-planning : (r : Request) (p : Planning) → asked_of ws ≡ Some r → IsAsked r (work.Planning p) → ⊥
  no-planning (a_planning domain script budget) p asked kind = true≢false (sym quiet ∙ planning-loud ws domain script budget asked)
  no-planning r p asked kind = kind

  -- what words ask for whose first is that of a mode that always returns is such work
  pub quiet-work : (old : FilesView) (w : Work) → IsLoaded ws old w → IsQuiet w
  quiet-work old (work.Session s) l = no-session l.request s l.asked l.kind
  quiet-work old (work.Generation g) l = no-generation l.request g l.asked l.kind
  quiet-work old (work.Planning p) l = no-planning l.request p l.asked l.kind
  quiet-work old w l = tt

-- such work has no reports
pub quiet-silent : (w : Work) → IsQuiet w → has_reports w ≡ false
quiet-silent (work.Session s) quiet = absurd quiet
quiet-silent (work.Generation g) quiet = absurd quiet
quiet-silent (work.Planning p) quiet = absurd quiet
quiet-silent w quiet = refl

-- nor has any but a session
pub no_session-silent : (w : Work) → ((s : Session) → w ≡ work.Session s → ⊥) → has_reports w ≡ false
no_session-silent (work.Session s) apart = absurd (apart s refl)
no_session-silent w apart = refl
