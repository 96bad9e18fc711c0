-- What follows for the status of a call.
use Rattle.std.specs.Prelude.{◌≡◌, ◌≢◌, ℕ, ◌<◌, ◌≤◌, ◌⊎◌, Bool, true, false, Option, None, Some, List, [], ◌∷◌, Ok}
use Rattle.std.specs.Io.KnownBytes.{Appends}
use Rattle.ps_text.specs.Outside.{next}
use Rattle.ps_words.specs.Words.{ReplayRequest, Request, SessionRequest, asked_of}
use Rattle.ps_words.specs.Words.Request.{a_generation, a_session, a_validation, a_planning, a_replay, an_editing}
use Rattle.ps_inputs.specs.Reading.{Reading}
use Rattle.ps_inputs.specs.Reading.FileFault.{no_file, too_long, too_many}
use Rattle.ps_inputs.specs.Reading.Reading.{gives, faulty, unknown}
use Rattle.ps_inputs.specs.Input.{HasFault, IsWork, Material, is_judging, reading_of, texts_of}
use Rattle.ps_inputs.specs.declared.faults.Fault.{Fault}
use Rattle.ps_inputs.specs.declared.works.Session.{Session}
use Rattle.ps_inputs.specs.declared.works.Work.{Work}
use Rattle.ps_inputs.specs.declared.works.Work.TheVariants as work
use Rattle.ps_undo.specs.declared.editing.Editing.{Editing as Held}
use Rattle.ps_editing.specs.Runs.{IsRun, Stage, run_status}
use Rattle.ps_audit.specs.Findings.{finding_status}
use Rattle.ps_audit.specs.declared.findings.Finding.{Finding}
use Rattle.ps_good_plan_laws.specs.Beginnings.{GoInOrder}
use Rattle.ps_good_plan_laws.specs.Segments.{GoWell}
use Rattle.ps_session.specs.Session.{IsSession}
use Rattle.ps_hub.specs.declared.report.Report.{Report}
use Rattle.ps_calls.specs.Headline.{Answers, Call, IsFound, LoadsAs, PerformsAs, edit_lines, lines_of, plan_of, turns_of, verdict_of}
use Rattle.ps_calls.specs.Verdicts.{verdict_status}

-- this is so of each call with each status that it answers
abbrev pub OfEachCall : (Call → ℕ → Type 0) → Type 0
OfEachCall claim = (c : Call) (status : ℕ) → Answers c status → claim c status

-- ---- failures

-- the status is that of a write or of memory that failed
abbrev pub IsBroken : ℕ → Type 0
IsBroken status = (status ≡ 5) ⊎ (status ≡ 6)

-- where the count of failed reads changes, the answer is 4, or 5 or 6
abbrev pub FailedReadsAreTold : Type 0
FailedReadsAreTold = OfEachCall (λ c status. c.after.files.failed ≢ c.before.files.failed → (status ≡ 4) ⊎ IsBroken status)

-- where the count of failed writes to `out` changes, the answer is 5
abbrev pub FailedWritesAreTold : Type 0
FailedWritesAreTold = OfEachCall (λ c status. c.after.out.failed ≢ c.before.out.failed → status ≡ 5)

-- where the count of refused writes to `out` or to `err` changes, the answer is 5 or 6
abbrev pub RefusedWritesAreTold : Type 0
RefusedWritesAreTold = OfEachCall (λ c status.
    (c.after.out.refused ≢ c.before.out.refused) ⊎ (c.after.err.refused ≢ c.before.err.refused) → IsBroken status)

-- ---- what an answer says of the outside

-- the status is that of work that is done
abbrev pub IsOfWork : ℕ → Type 0
IsOfWork status = (status < 2) ⊎ (status ≡ 7)

-- whether what is asked for is a session whose reports are told
abbrev pub asks_reports : Option Request → Bool
asks_reports (Some (a_session s)) = s.reports
asks_reports asked = false

-- no read and no write has failed
pub record IsFlawless (c : Call) : Type 0 where
  pub read : c.after.files.failed ≡ c.before.files.failed
  pub failed : c.after.out.failed ≡ c.before.out.failed
  pub refused : c.after.out.refused ≡ c.before.out.refused
  pub err_failed : c.after.err.failed ≡ c.before.err.failed
  pub err_refused : c.after.err.refused ≡ c.before.err.refused

-- with the answers 0, 1 and 7 no read and no write has failed, and where no reports are asked for, `err` is as it was
abbrev pub WorkIsDoneInSilence : Type 0
WorkIsDoneInSilence = OfEachCall (λ c status. IsOfWork status
    → (asks_reports (asked_of c.words) ≡ false → c.after.err ≡ c.before.err) × IsFlawless c)

-- A session is done with this status, and what `err` took is the lines of some reports against the journal that `out` took.
pub record TellsReports (c : Call) (status : ℕ) : Type 0 where
  pub session : Session
  pub loaded : LoadsAs c (Ok (work.Session session))
  pub done : PerformsAs c (work.Session session) (Ok status)
  pub reports : List Report
  pub told : Appends c.before.err.bytes c.after.err.bytes (lines_of session c.before.out c.after.out status done reports)

-- where reports are asked for, the answers 0, 1 and 7 come only where they are told
abbrev pub ReportsAreTold : Type 0
ReportsAreTold = OfEachCall (λ c status. asks_reports (asked_of c.words) ≡ true → IsOfWork status → TellsReports c status)

-- the status is that of a fault
abbrev pub IsOfFault : ℕ → Type 0
IsOfFault status = (2 ≤ status) × (status ≤ 4)

-- the answers 2, 3 and 4 leave `out` as it was
abbrev pub FaultsWriteNothing : Type 0
FaultsWriteNothing = OfEachCall (λ c status. IsOfFault status → c.after.out ≡ c.before.out)

-- the answer 4 comes only where a read failed
abbrev pub UnreadIsCounted : Type 0
UnreadIsCounted = OfEachCall (λ c status. status ≡ 4 → c.after.files.failed ≡ next c.before.files.failed)

-- nothing was written to `out`, or reports are asked for
abbrev pub IsUnwrittenOrReported : Call → Type 0
IsUnwrittenOrReported c = (c.after.out ≡ c.before.out) ⊎ (asks_reports (asked_of c.words) ≡ true)

-- The answer 5 comes only where a write to `out` failed, or where one to `err` did and nothing was written to `out`, or reports were to be told.
abbrev pub UnwrittenIsCounted : Type 0
UnwrittenIsCounted = OfEachCall (λ c status. status ≡ 5
    → (c.after.out.failed ≡ next c.before.out.failed) ⊎ (IsUnwrittenOrReported c × (c.after.err.failed ≡ next c.before.err.failed)))

-- ---- what decides the status

-- the answer 2 comes only where the words aren't in the grammar, and nothing else but 5 or 6 comes there
abbrev pub WordsDecide : Type 0
WordsDecide = OfEachCall (λ c status.
    (status ≡ 2 → asked_of c.words ≡ None) × (asked_of c.words ≡ None → (status ≡ 2) ⊎ IsBroken status))

-- a status with which this work can end: 0 or 1 for a session and for a generation, 0 for a check, 0 or 7 for a plan and for a journal, by
-- what they are worth, 0 or 1 for a planning, by what is found, and 0 or 1 for a problem that is prepared, by its run
abbrev pub IsStatusOf : Work → ℕ → Type 0
IsStatusOf (work.Session s) status = status < 2
IsStatusOf (work.Generation g) status = status < 2
IsStatusOf (work.Check c) status = status ≡ 0
IsStatusOf (work.Validation v) status = status ≡ verdict_status (verdict_of v).0
IsStatusOf (work.Planning p) status = status ≡ (plan_of p).1
IsStatusOf (work.Replay r) status = (f : Finding) × IsFound r f × (status ≡ finding_status f)
IsStatusOf (work.Editing e) status =
    (stages : List Stage) × (last : Held) × IsRun e.names e.domain (edit_lines e) stages last × (status ≡ run_status stages)

-- what texts come to: the status of the work that they are, or 3 where they have a fault
abbrev pub ComesTo : Material → ℕ → Type 0
ComesTo m status =
    ((w : Work) × IsWork m w × IsStatusOf w status)
    ⊎ ((fault : Fault) × HasFault (texts_of m) fault × (status ≡ 3))

-- there are files among these
abbrev pub AreSome : List (List ℕ) → Type 0
AreSome [] = ⊥
AreSome (file ∷ files) = Unit {0}

-- What reading the files comes to: what their texts come to, or, where there are files, 4 where a read fails; 4 where there is no such file;
-- 3 where a file is too long or lines are too many, or 4 where a read before that fails.
abbrev pub LeadsTo : Reading Material → ℕ → Type 0
LeadsTo (gives files m) status = (AreSome files × (status ≡ 4)) ⊎ ComesTo m status
LeadsTo (faulty files (no_file file)) status = status ≡ 4
LeadsTo (faulty files (too_long file n)) status = (status ≡ 4) ⊎ (status ≡ 3)
LeadsTo (faulty files (too_many n)) status = (status ≡ 4) ⊎ (status ≡ 3)
LeadsTo (unknown files) status = Unit {0}

-- the texts of the files that the words name decide the status, unless it is 5 or 6
abbrev pub TextsDecide : Type 0
TextsDecide = OfEachCall (λ c status. (r : Request) → asked_of c.words ≡ Some r
    → IsBroken status ⊎ LeadsTo (reading_of c.before.files.told r) status)

-- this request is to judge a plan or a journal
abbrev pub IsToJudge : Request → Type 0
IsToJudge r = ((domain script plan : List ℕ) × (r ≡ a_validation domain script plan)) ⊎ ((q : ReplayRequest) × (r ≡ a_replay q))

-- this request is to do lines, those of a session, of files or of the generator, or of an editor, or to plan
abbrev pub IsToRun : Request → Type 0
IsToRun r =
    ((s : SessionRequest) × (r ≡ a_session s))
    ⊎ (((n : ℕ) × (r ≡ a_generation n))
    ⊎ (((domain script : List ℕ) × (r ≡ an_editing domain script))
    ⊎ ((domain script : List ℕ) × (budget : ℕ) × (r ≡ a_planning domain script budget))))

-- the answer 1 comes only to a session, a generation, an editor or a planning, and 7 only to a plan or a journal that is judged
abbrev pub ModesDecide : Type 0
ModesDecide = OfEachCall (λ c status.
    (status ≡ 1 → (r : Request) × (asked_of c.words ≡ Some r) × IsToRun r)
    × (status ≡ 7 → (r : Request) × (asked_of c.words ≡ Some r) × IsToJudge r))

-- 1 doesn't come where the first word is that of a mode that judges a text, and 7 nowhere else
abbrev pub FirstWordsDecide : Type 0
FirstWordsDecide = OfEachCall (λ c status.
    (is_judging c.words ≡ true → status ≢ 1) × (is_judging c.words ≡ false → status ≢ 7))

-- no answer is more than 7
abbrev pub StatusesAreFew : Type 0
StatusesAreFew = OfEachCall (λ c status. status ≤ 7)

-- ---- sessions

-- in the journal that the bytes of a session are the text of, good plans go well, and the starts and ends of each plan follow an order that
-- its arcs allow, wherever the plan stands and however workers came to their turns
abbrev pub WrittenSessionsGoWell : Type 0
WrittenSessionsGoWell = (s : Session) (bytes : List ℕ) (status : ℕ) (is : IsSession (turns_of s) s.input s.names bytes status)
    → GoWell s.input is.journal × GoInOrder s.input is.journal

-- two sessions of one input, with one table of names, write the same bytes and end with the same status, where their turns are ordered
abbrev pub OrderedSessionsAreOne : Type 0
OrderedSessionsAreOne = (s t : Session) (bytes other : List ℕ) (status end : ℕ)
    → s.ordered ≡ true → t.ordered ≡ true → s.input ≡ t.input → s.names ≡ t.names
    → IsSession (turns_of s) s.input s.names bytes status → IsSession (turns_of t) t.input t.names other end
    → (bytes ≡ other) × (status ≡ end)
