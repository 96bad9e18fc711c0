-- What follows for the status of a call, by the ways in which it can end.
use Rattle.std.proofs.Common.{◌<◌, ◌≡◌, ◌≢◌, ℕ, ◌≤◌, ◌⊎◌, Bool, true, false, if◌then◌else◌, Option, Some, None, Ok, Err, List, [], ◌∷◌, inl, inr, refl, sym, ap, ◌∙◌, subst, arith}
use Rattle.std.specs.List.{list_any}
use Rattle.ps_world.specs.declared.failures.Failure.TheVariants as failure
use Rattle.ps_action.proofs.ArcTables.{true_false}
use Rattle.ps_text.specs.Outside.{FilesView, Puts, SinkView, next}
use Rattle.ps_validate.specs.declared.verdicts.Invalid.{Invalid}
use Rattle.ps_words.specs.Words.{Request, asked_of}
use Rattle.ps_words.specs.Words.Request.{a_generation, a_session, a_check, a_validation, a_planning, a_replay, an_editing}
use Rattle.ps_inputs.specs.Faults.{IsDue, IsLoaded, failed_after, fault_status}
use Rattle.ps_inputs.specs.Input.{HasFault, IsAsked, IsWork, Material, is_judging, reading_of, texts_of}
use Rattle.ps_inputs.specs.Reading.{MayFail, MayGive, MayReadNext, Reading}
use Rattle.ps_inputs.specs.Reading.FileFault.{no_file, too_long, too_many}
use Rattle.ps_inputs.specs.Reading.Reading.{gives, faulty, unknown}
use Rattle.ps_inputs.specs.declared.faults.Fault.{Fault}
use Rattle.ps_inputs.specs.declared.faults.Fault.TheVariants.{Usage, NoDomain, NoMember, Crowd, Twice, TooLong, Lines, Unread}
use Rattle.ps_inputs.specs.declared.works.Session.{Session}
use Rattle.ps_inputs.specs.declared.works.Work.{Work}
use Rattle.ps_inputs.specs.declared.works.Work.TheVariants as work
use Rattle.ps_editing.specs.Lines.{is_refused}
use Rattle.ps_editing.specs.Runs.{Stage}
use Rattle.ps_audit.specs.Findings.{finding_status}
use Rattle.ps_audit.specs.declared.findings.Finding.{Finding}
use Rattle.ps_audit.specs.declared.findings.Finding.TheVariants.{Legal, Illegal}
use Rattle.ps_calls.specs.Headline.{Informs, Performs, Reports, has_reports, plan_of, verdict_of}
use Rattle.ps_calls.specs.Headline.Answers.{done, reported, at_fault, cannot_write, starved_at_work, starved_before}
use Rattle.ps_calls.specs.Headline.Informs.{told, unwritten, starved, wordless}
use Rattle.ps_calls.specs.Laws.{FailedReadsAreTold, FailedWritesAreTold, FaultsWriteNothing, FirstWordsDecide, IsBroken, IsOfFault, IsOfWork, IsStatusOf, IsToJudge, IsToRun, LeadsTo, asks_reports, ModesDecide, RefusedWritesAreTold, ReportsAreTold, StatusesAreFew, TellsReports, TextsDecide, UnreadIsCounted, UnwrittenIsCounted, WordsDecide, WorkIsDoneInSilence}
use Rattle.ps_calls.specs.Verdicts.{verdict_status}
use Rattle.ps_calls.proofs.Modes.{judging-judged, running-unjudged}
use Rattle.ps_calls.proofs.Statuses.{few_planned, no_fault-broken, no_work-broken, no_work-fault, status-of_fault, status-informed, status-of_work, status-performed, status-reported}

-- ---- failures

-- no fault but that of a file that can't be read changes the count
unread-changed : (f : Fault) (before now : ℕ) → now ≡ failed_after {B = Work} (Err (failure.Refused f)) before → now ≢ before → fault_status f ≡ 4
unread-changed Usage before now e changed = absurd (changed e)
unread-changed (NoDomain cause) before now e changed = absurd (changed e)
unread-changed (NoMember file cause) before now e changed = absurd (changed e)
unread-changed Crowd before now e changed = absurd (changed e)
unread-changed (Twice name) before now e changed = absurd (changed e)
unread-changed (TooLong file) before now e changed = absurd (changed e)
unread-changed Lines before now e changed = absurd (changed e)
unread-changed (Unread file) before now e changed = refl

pub failed_reads_are_told : FailedReadsAreTold
failed_reads_are_told c _ (done w status l p n s) changed = absurd (changed l.failed)
failed_reads_are_told c _ (reported t d status l on p rs r) changed = absurd (changed l.failed)
failed_reads_are_told c _ (at_fault f status l o r) changed =
    elim (status-reported f _ _ status r) [
      | inl e ↦ inl (e ∙ unread-changed f _ _ l.failed changed)
      | inr broken ↦ inr broken
    ]
failed_reads_are_told c _ (cannot_write w l p s) changed = absurd (changed l.failed)
failed_reads_are_told c _ (starved_at_work w l p s) changed = absurd (changed l.failed)
failed_reads_are_told c _ (starved_before l o s) changed = absurd (changed l.failed)

pub failed_writes_are_told : FailedWritesAreTold
failed_writes_are_told c _ (done w status l p n s) changed = absurd (changed p.counted.0)
failed_writes_are_told c _ (reported t d status l on p rs r) changed = absurd (changed p.counted.0)
failed_writes_are_told c _ (at_fault f status l o r) changed = absurd (changed (ap (λ v. v.failed) o))
failed_writes_are_told c _ (cannot_write w l p s) changed = refl
failed_writes_are_told c _ (starved_at_work w l p s) changed = absurd (changed p.counted)
failed_writes_are_told c _ (starved_before l o s) changed = absurd (changed (ap (λ v. v.failed) o))

-- a text that is told leaves no refused write
informed-refused : (text : List ℕ) (d : ℕ) (old new : SinkView) (status : ℕ) → Informs text d old new status → new.refused ≢ old.refused → IsBroken status
informed-refused text d old new _ (told p) changed = absurd (changed p.counted.1)
informed-refused text d old new _ (unwritten p) changed = inl refl
informed-refused text d old new _ (starved p) changed = inr refl
informed-refused text d old new _ (wordless p) changed = inr refl

pub refused_writes_are_told : RefusedWritesAreTold
refused_writes_are_told c _ (done w status l p n s) (inl changed) = absurd (changed p.counted.1)
refused_writes_are_told c _ (done w status l p n s) (inr changed) = absurd (changed (ap (λ v. v.refused) s))
refused_writes_are_told c _ (reported t d status l on p rs r) (inl changed) = absurd (changed p.counted.1)
refused_writes_are_told c _ (reported t d status l on p rs r) (inr changed) = informed-refused _ _ _ _ status r changed
refused_writes_are_told c _ (at_fault f status l o r) (inl changed) = absurd (changed (ap (λ v. v.refused) o))
refused_writes_are_told c _ (at_fault f status l o r) (inr changed) = informed-refused _ _ _ _ status r changed
refused_writes_are_told c _ (cannot_write w l p s) changed = inl refl
refused_writes_are_told c _ (starved_at_work w l p s) changed = inr refl
refused_writes_are_told c _ (starved_before l o s) changed = inr refl

-- ---- what an answer says of the outside

-- a fault isn't answered with a status of work
reported-no_work : (f : Fault) (old new : SinkView) (status : ℕ) → Reports f old new status → IsOfWork status → ⊥
reported-no_work f old new status r h =
    elim (status-reported f old new status r) [
      | inl e ↦ no_work-fault status h (subst IsOfFault (sym e) (status-of_fault f))
      | inr broken ↦ no_work-broken status h broken
    ]

-- what is asked for has reports where the work has them
asked-reports : (q : Request) (w : Work) → IsAsked q w → asks_reports (Some q) ≡ has_reports w
asked-reports (a_session s) (work.Session t) kind = sym kind
asked-reports (a_check file) (work.Check c) kind = refl
asked-reports (a_validation domain script plan) (work.Validation v) kind = refl
asked-reports (a_planning domain script budget) (work.Planning p) kind = refl
asked-reports (a_replay q) (work.Replay r) kind = refl
asked-reports (an_editing domain script) (work.Editing e) kind = refl
asked-reports (a_generation n) (work.Generation g) kind = refl
asked-reports q w kind = absurd kind

loaded-reports : (ws : List (List ℕ)) (old : FilesView) (w : Work) → IsLoaded ws old w → asks_reports (asked_of ws) ≡ has_reports w
loaded-reports ws old w l = ap asks_reports l.asked ∙ asked-reports l.request w l.kind

-- a text that is told with a status of work is told whole, and no write is refused
informed-whole : (text : List ℕ) (d : ℕ) (old new : SinkView) (status : ℕ) → Informs text d old new status → IsOfWork status
    → (status ≡ d) × Puts text old new (Ok tt)
informed-whole text d old new _ (told p) h = (refl, p)
informed-whole text d old new _ (unwritten p) h = absurd (no_work-broken 5 h (inl refl))
informed-whole text d old new _ (starved p) h = absurd (no_work-broken 6 h (inr refl))
informed-whole text d old new _ (wordless p) h = absurd (no_work-broken 6 h (inr refl))

pub work_is_done_in_silence : WorkIsDoneInSilence
work_is_done_in_silence c _ (done w status l p n s) h = (
  (λ none. s),
  record {
    read = l.failed;
    failed = p.counted.0;
    refused = p.counted.1;
    err_failed = ap (λ v. v.failed) s;
    err_refused = ap (λ v. v.refused) s;
  },
)
work_is_done_in_silence c _ (reported t d status l on p rs r) h =
    let whole = informed-whole _ _ _ _ status r h in (
      (λ none. absurd (true_false t.reports on (sym (loaded-reports c.words c.before.files (work.Session t) l.loaded) ∙ none))),
      record {
        read = l.failed;
        failed = p.counted.0;
        refused = p.counted.1;
        err_failed = whole.1.counted.0;
        err_refused = whole.1.counted.1;
      },
    )
work_is_done_in_silence c _ (at_fault f status l o r) h = absurd (reported-no_work f _ _ status r h)
work_is_done_in_silence c _ (cannot_write w l p s) h = absurd (no_work-broken 5 h (inl refl))
work_is_done_in_silence c _ (starved_at_work w l p s) h = absurd (no_work-broken 6 h (inr refl))
work_is_done_in_silence c _ (starved_before l o s) h = absurd (no_work-broken 6 h (inr refl))

pub reports_are_told : ReportsAreTold
reports_are_told c _ (done w status l p n s) asks h =
    absurd (true_false (has_reports w) (sym (loaded-reports c.words c.before.files w l.loaded) ∙ asks) n)
reports_are_told c _ (reported t d status l on p rs r) asks h =
    let whole = informed-whole _ _ _ _ status r h in
    subst (TellsReports c) (sym whole.0) (record { session = t; loaded = l; done = p; reports = rs; told = whole.1.whole })
reports_are_told c _ (at_fault f status l o r) asks h = absurd (reported-no_work f _ _ status r h)
reports_are_told c _ (cannot_write w l p s) asks h = absurd (no_work-broken 5 h (inl refl))
reports_are_told c _ (starved_at_work w l p s) asks h = absurd (no_work-broken 6 h (inr refl))
reports_are_told c _ (starved_before l o s) asks h = absurd (no_work-broken 6 h (inr refl))

-- a session whose reports are told is answered with a status of work, or broken off
reported-status : (t : Session) (d status : ℕ) (old new out out' : SinkView) (text : List ℕ) → Performs (work.Session t) out out' (Ok d)
    → Informs text d old new status → IsStatusOf (work.Session t) status ⊎ IsBroken status
reported-status t d status old new out out' text p r =
    elim (status-informed text d old new status r) [
      | inl e ↦ inl (subst (IsStatusOf (work.Session t)) (sym e) (status-performed (work.Session t) out out' d p))
      | inr broken ↦ inr broken
    ]

-- so it isn't answered as a fault
reported-no_fault : (t : Session) (d status : ℕ) (old new out out' : SinkView) (text : List ℕ) → Performs (work.Session t) out out' (Ok d)
    → Informs text d old new status → IsOfFault status → ⊥
reported-no_fault t d status old new out out' text p r h =
    elim (reported-status t d status old new out out' text p r) [
      | inl few ↦ no_work-fault status (inl few) h
      | inr broken ↦ no_fault-broken status h broken
    ]

pub faults_write_nothing : FaultsWriteNothing
faults_write_nothing c _ (done w status l p n s) h = absurd (no_work-fault status (status-of_work w status (status-performed w _ _ status p)) h)
faults_write_nothing c _ (reported t d status l on p rs r) h = absurd (reported-no_fault t d status _ _ _ _ _ p r h)
faults_write_nothing c _ (at_fault f status l o r) h = o
faults_write_nothing c _ (cannot_write w l p s) h = absurd (no_fault-broken 5 h (inl refl))
faults_write_nothing c _ (starved_at_work w l p s) h = absurd (no_fault-broken 6 h (inr refl))
faults_write_nothing c _ (starved_before l o s) h = absurd (no_fault-broken 6 h (inr refl))

-- the fault with the status 4 is that of a file that can't be read
unread-counted : (f : Fault) (before now : ℕ) → now ≡ failed_after {B = Work} (Err (failure.Refused f)) before → fault_status f ≡ 4 → now ≡ next before
unread-counted Usage before now e h = absurd (omega arith)
unread-counted (NoDomain cause) before now e h = absurd (omega arith)
unread-counted (NoMember file cause) before now e h = absurd (omega arith)
unread-counted Crowd before now e h = absurd (omega arith)
unread-counted (Twice name) before now e h = absurd (omega arith)
unread-counted (TooLong file) before now e h = absurd (omega arith)
unread-counted Lines before now e h = absurd (omega arith)
unread-counted (Unread file) before now e h = e

four-of_fault : (status : ℕ) → status ≡ 4 → IsOfFault status
four-of_fault status h = (omega arith, omega arith)

pub unread_is_counted : UnreadIsCounted
unread_is_counted c _ (done w status l p n s) h =
    absurd (no_work-fault status (status-of_work w status (status-performed w _ _ status p)) (four-of_fault status h))
unread_is_counted c _ (reported t d status l on p rs r) h = absurd (reported-no_fault t d status _ _ _ _ _ p r (four-of_fault status h))
unread_is_counted c _ (at_fault f status l o r) h =
    elim (status-reported f _ _ status r) [
      | inl e ↦ unread-counted f _ _ l.failed (sym e ∙ h)
      | inr broken ↦ absurd (no_fault-broken status (four-of_fault status h) broken)
    ]
unread_is_counted c _ (cannot_write w l p s) h = absurd (omega arith)
unread_is_counted c _ (starved_at_work w l p s) h = absurd (omega arith)
unread_is_counted c _ (starved_before l o s) h = absurd (omega arith)

-- a text that is to be told with another status is told with 5 only where it couldn't be written
informed-unwritten : (text : List ℕ) (d : ℕ) (old new : SinkView) (status : ℕ) → Informs text d old new status → d ≢ 5 → status ≡ 5 → new.failed ≡ next old.failed
informed-unwritten text d old new _ (told p) other h = absurd (other h)
informed-unwritten text d old new _ (unwritten p) other h = p.counted.0
informed-unwritten text d old new _ (starved p) other h = absurd (omega arith)
informed-unwritten text d old new _ (wordless p) other h = absurd (omega arith)

no_fault-five : (f : Fault) → fault_status f ≢ 5
no_fault-five f h = no_fault-broken (fault_status f) (status-of_fault f) (inl h)

no_work-five : (w : Work) (d : ℕ) → IsStatusOf w d → d ≢ 5
no_work-five w d h five = no_work-broken d (status-of_work w d h) (inl five)

pub unwritten_is_counted : UnwrittenIsCounted
unwritten_is_counted c _ (done w status l p n s) h =
    absurd (no_work-broken status (status-of_work w status (status-performed w _ _ status p)) (inl h))
unwritten_is_counted c _ (reported t d status l on p rs r) h =
    inr (inr (loaded-reports c.words c.before.files (work.Session t) l.loaded ∙ on), informed-unwritten _ _ _ _ status r (no_work-five (work.Session t) d (status-performed (work.Session t) _ _ d p)) h)
unwritten_is_counted c _ (at_fault f status l o r) h = inr (inl o, informed-unwritten _ _ _ _ status r (no_fault-five f) h)
unwritten_is_counted c _ (cannot_write w l p s) h = inl p.counted.0
unwritten_is_counted c _ (starved_at_work w l p s) h = absurd (omega arith)
unwritten_is_counted c _ (starved_before l o s) h = absurd (omega arith)

-- ---- what the words decide

two-of_fault : (status : ℕ) → status ≡ 2 → IsOfFault status
two-of_fault status h = (omega arith, omega arith)

-- the fault with the status 2 is that of the words
usage-unasked : (ws : List (List ℕ)) (old new : FilesView) (f : Fault) → IsDue ws old new f → fault_status f ≡ 2 → asked_of ws ≡ None
usage-unasked ws old new Usage due h = due
usage-unasked ws old new (NoDomain cause) due h = absurd (omega arith)
usage-unasked ws old new (NoMember file cause) due h = absurd (omega arith)
usage-unasked ws old new Crowd due h = absurd (omega arith)
usage-unasked ws old new (Twice name) due h = absurd (omega arith)
usage-unasked ws old new (TooLong file) due h = absurd (omega arith)
usage-unasked ws old new Lines due h = absurd (omega arith)
usage-unasked ws old new (Unread file) due h = absurd (omega arith)

asked-apart : (ws : List (List ℕ)) (r : Request) → asked_of ws ≡ None → asked_of ws ≡ Some r → ⊥
asked-apart ws r none some = cc

-- where nothing is asked for no other fault is due
unasked-usage : (ws : List (List ℕ)) (old new : FilesView) (f : Fault) → IsDue ws old new f → asked_of ws ≡ None → fault_status f ≡ 2
unasked-usage ws old new Usage due none = refl
unasked-usage ws old new (NoDomain cause) due none = absurd (asked-apart ws due.0 none due.1)
unasked-usage ws old new (NoMember file cause) due none = absurd (asked-apart ws due.0 none due.1)
unasked-usage ws old new Crowd due none = absurd (asked-apart ws due.0 none due.1)
unasked-usage ws old new (Twice name) due none = absurd (asked-apart ws due.0 none due.1)
unasked-usage ws old new (TooLong file) due none = absurd (asked-apart ws due.0 none due.1)
unasked-usage ws old new Lines due none = absurd (asked-apart ws due.0 none due.1)
unasked-usage ws old new (Unread file) due none = absurd (asked-apart ws due.0 none due.1)

pub words_decide : WordsDecide
words_decide c _ (done w status l p n s) = (
  (λ h. absurd (no_work-fault status (status-of_work w status (status-performed w _ _ status p)) (two-of_fault status h))),
  (λ none. absurd (asked-apart c.words l.loaded.request none l.loaded.asked)),
)
words_decide c _ (reported t d status l on p rs r) = (
  (λ h. absurd (reported-no_fault t d status _ _ _ _ _ p r (two-of_fault status h))),
  (λ none. absurd (asked-apart c.words l.loaded.request none l.loaded.asked)),
)
words_decide c _ (at_fault f status l o r) = (
  (λ h. elim (status-reported f _ _ status r) [
    | inl e ↦ usage-unasked c.words _ _ f l.refused (sym e ∙ h)
    | inr broken ↦ absurd (no_fault-broken status (two-of_fault status h) broken)
  ]),
  (λ none. elim (status-reported f _ _ status r) [
    | inl e ↦ inl (e ∙ unasked-usage c.words _ _ f l.refused none)
    | inr broken ↦ inr broken
  ]),
)
words_decide c _ (cannot_write w l p s) = ((λ h. absurd (omega arith)), (λ none. inr (inl refl)))
words_decide c _ (starved_at_work w l p s) = ((λ h. absurd (omega arith)), (λ none. inr (inr refl)))
words_decide c _ (starved_before l o s) = ((λ h. absurd (omega arith)), (λ none. inr (inr refl)))

-- ---- what the texts decide

-- one request is asked for
asked-one : (ws : List (List ℕ)) (r s : Request) → asked_of ws ≡ Some r → asked_of ws ≡ Some s → r ≡ s
asked-one ws r s a b = cc

leads-work : (part : Reading Material) (w : Work) (status : ℕ) → MayGive part (λ m. IsWork m w) → IsStatusOf w status → LeadsTo part status
leads-work (gives files m) w status is h = inr (inl (w, is, h))
leads-work (faulty files fault) w status is h = absurd is
leads-work (unknown files) w status is h = tt

leads-fault : (part : Reading Material) (fault : Fault) → MayGive part (λ m. HasFault (texts_of m) fault) → LeadsTo part 3
leads-fault (gives files m) fault has = inr (inr (fault, has, refl))
leads-fault (faulty files why) fault has = absurd has
leads-fault (unknown files) fault has = tt

leads-too_long : (part : Reading Material) (file : List ℕ) (n : ℕ) → MayFail part (too_long file n) → LeadsTo part 3
leads-too_long (gives files m) file n is = absurd is
leads-too_long (faulty files (no_file other)) file n is = absurd (cc)
leads-too_long (faulty files (too_long other k)) file n is = inr refl
leads-too_long (faulty files (too_many k)) file n is = inr refl
leads-too_long (unknown files) file n is = tt

leads-too_many : (part : Reading Material) (n : ℕ) → MayFail part (too_many n) → LeadsTo part 3
leads-too_many (gives files m) n is = absurd is
leads-too_many (faulty files (no_file other)) n is = absurd (cc)
leads-too_many (faulty files (too_long other k)) n is = inr refl
leads-too_many (faulty files (too_many k)) n is = inr refl
leads-too_many (unknown files) n is = tt

leads-unread : (part : Reading Material) (n : ℕ) (file : List ℕ) → MayReadNext part n file → LeadsTo part 4
leads-unread (gives [] m) n file named = absurd (cc)
leads-unread (gives (other ∷ files) m) n file named = inl (tt, refl)
leads-unread (faulty files (no_file other)) n file named = refl
leads-unread (faulty files (too_long other k)) n file named = inl refl
leads-unread (faulty files (too_many k)) n file named = inl refl
leads-unread (unknown files) n file named = tt

module _ (ws : List (List ℕ)) (old new : FilesView) (r : Request) (asked : asked_of ws ≡ Some r) where
  here : (s : Request) → asked_of ws ≡ Some s → (claim : Reading Material → Type 0) → claim (reading_of old.told s) → claim (reading_of old.told r)
  here s other claim h = subst (λ q. claim (reading_of old.told q)) (asked-one ws s r other asked) h

  leads-loaded : (w : Work) (status : ℕ) → IsLoaded ws old w → IsStatusOf w status → LeadsTo (reading_of old.told r) status
  leads-loaded w status l h = here l.request l.asked (λ part. LeadsTo part status) (leads-work (reading_of old.told l.request) w status l.texts h)

  leads-due : (f : Fault) → IsDue ws old new f → LeadsTo (reading_of old.told r) (fault_status f)
  leads-due Usage due = absurd (asked-apart ws r due asked)
  leads-due (NoDomain cause) due = here due.0 due.1 (λ part. LeadsTo part 3) (leads-fault (reading_of old.told due.0) (NoDomain cause) due.2.all)
  leads-due (NoMember file cause) due = here due.0 due.1 (λ part. LeadsTo part 3) (leads-fault (reading_of old.told due.0) (NoMember file cause) due.2)
  leads-due Crowd due = here due.0 due.1 (λ part. LeadsTo part 3) (leads-fault (reading_of old.told due.0) Crowd due.2)
  leads-due (Twice name) due = here due.0 due.1 (λ part. LeadsTo part 3) (leads-fault (reading_of old.told due.0) (Twice name) due.2)
  leads-due (TooLong file) due = here due.0 due.1 (λ part. LeadsTo part 3) (leads-too_long (reading_of old.told due.0) file.items due.2.length due.2.told)
  leads-due Lines due = here due.0 due.1 (λ part. LeadsTo part 3) (leads-too_many (reading_of old.told due.0) _ due.2)
  leads-due (Unread file) due =
      here due.0 due.1 (λ part. LeadsTo part 4) (leads-unread (reading_of old.told due.0) due.2.before file.items due.2.named)

pub texts_decide : TextsDecide
texts_decide c _ (reported t d status l on p rs r) q asked =
    elim (reported-status t d status _ _ _ _ _ p r) [
      | inl few ↦ inr (leads-loaded c.words c.before.files c.after.files q asked (work.Session t) status l.loaded few)
      | inr broken ↦ inl broken
    ]
texts_decide c _ (done w status l p n s) r asked = inr (leads-loaded c.words c.before.files c.after.files r asked w status l.loaded (status-performed w _ _ status p))
texts_decide c _ (at_fault f status l o h) r asked =
    elim (status-reported f _ _ status h) [
      | inl e ↦ inr (subst (LeadsTo (reading_of c.before.files.told r)) (sym e) (leads-due c.words c.before.files c.after.files r asked f l.refused))
      | inr broken ↦ inl broken
    ]
texts_decide c _ (cannot_write w l p s) r asked = inl (inl refl)
texts_decide c _ (starved_at_work w l p s) r asked = inl (inr refl)
texts_decide c _ (starved_before l o s) r asked = inl (inr refl)

-- ---- the mode

no_one : (wrong : Option Invalid) → verdict_status wrong ≡ 1 → ⊥
no_one None h = omega arith
no_one (Some fault) h = omega arith

not_one : (f : Finding) → finding_status f ≡ 1 → ⊥
not_one Legal h = omega arith
not_one (Illegal line) h = omega arith

-- work with the status 1 is a session, a generation, an editor's or a planning
one-run : (o : Request) (w : Work) (status : ℕ) → IsAsked o w → IsStatusOf w status → status ≡ 1 → IsToRun o
one-run (a_session s) (work.Session t) status kind h one = inl (s, refl)
one-run (a_generation n) (work.Generation g) status kind h one = inr (inl (n, refl))
one-run (an_editing domain script) (work.Editing e) status kind h one = inr (inr (inl (domain, script, refl)))
one-run (a_planning domain script budget) (work.Planning p) status kind h one = inr (inr (inr (domain, script, budget, refl)))
one-run (a_check file) (work.Check c) status kind h one = absurd (omega arith)
one-run (a_validation domain script plan) (work.Validation v) status kind h one = absurd (no_one (verdict_of v).0 (sym h ∙ one))
one-run (a_replay q) (work.Replay r) status kind h one = absurd (not_one h.0 (sym h.2 ∙ one))
one-run o w status kind h one = absurd kind

no_seven : (b : Bool) (n : ℕ) → n ≡ (if b then 1 else 0) → n ≡ 7 → ⊥
no_seven true n e h = omega arith
no_seven false n e h = omega arith

few_seven : (n : ℕ) → n < 2 → n ≡ 7 → ⊥
few_seven n few seven = omega arith

-- work with the status 7 is a validation or a replay
seven-judged : (o : Request) (w : Work) (status : ℕ) → IsAsked o w → IsStatusOf w status → status ≡ 7 → IsToJudge o
seven-judged (a_session s) (work.Session t) status kind h seven = absurd (omega arith)
seven-judged (a_generation n) (work.Generation g) status kind h seven = absurd (omega arith)
seven-judged (an_editing domain script) (work.Editing e) status kind h seven = absurd (no_seven (list_any (λ (s : Stage). is_refused s.answer) h.0) status h.3 seven)
seven-judged (a_planning domain script budget) (work.Planning p) status kind h seven = absurd (few_seven (plan_of p).1 (few_planned p) (sym h ∙ seven))
seven-judged (a_check file) (work.Check c) status kind h seven = absurd (omega arith)
seven-judged (a_validation domain script plan) (work.Validation v) status kind h seven = inl (domain, script, plan, refl)
seven-judged (a_replay q) (work.Replay r) status kind h seven = inr (q, refl)
seven-judged o w status kind h seven = absurd kind

one-of_work : (status : ℕ) → status ≡ 1 → IsOfWork status
one-of_work status h = inl (omega arith)

seven-of_work : (status : ℕ) → status ≡ 7 → IsOfWork status
seven-of_work status h = inr h

-- a session is asked for as one
session-runs : (o : Request) (t : Session) → IsAsked o (work.Session t) → IsToRun o
session-runs (a_session s) t kind = inl (s, refl)
session-runs o t kind = absurd kind

reported-no_seven : (t : Session) (d status : ℕ) (old new out out' : SinkView) (text : List ℕ) → Performs (work.Session t) out out' (Ok d)
    → Informs text d old new status → status ≡ 7 → ⊥
reported-no_seven t d status old new out out' text p r h =
    elim (reported-status t d status old new out out' text p r) [
      | inl few ↦ omega arith
      | inr broken ↦ no_work-broken status (seven-of_work status h) broken
    ]

pub modes_decide : ModesDecide
modes_decide c _ (done w status l p n s) =
    let r = l.loaded.request in
    let asked = l.loaded.asked in
    let kind = status-performed w _ _ status p in (
      (λ h. (r, asked, one-run r w status l.loaded.kind kind h)),
      (λ h. (r, asked, seven-judged r w status l.loaded.kind kind h)),
    )
modes_decide c _ (reported t d status l on p rs r) = (
  (λ h. (l.loaded.request, l.loaded.asked, session-runs l.loaded.request t l.loaded.kind)),
  (λ h. absurd (reported-no_seven t d status _ _ _ _ _ p r h)),
)
modes_decide c _ (at_fault f status l o r) = (
  (λ h. absurd (reported-no_work f _ _ status r (one-of_work status h))),
  (λ h. absurd (reported-no_work f _ _ status r (seven-of_work status h))),
)
modes_decide c _ (cannot_write w l p s) = ((λ h. absurd (omega arith)), (λ h. absurd (omega arith)))
modes_decide c _ (starved_at_work w l p s) = ((λ h. absurd (omega arith)), (λ h. absurd (omega arith)))
modes_decide c _ (starved_before l o s) = ((λ h. absurd (omega arith)), (λ h. absurd (omega arith)))

pub first_words_decide : FirstWordsDecide
first_words_decide c status h =
    let modes = modes_decide c status h in (
      (λ judges one. let is = modes.0 one in true_false (is_judging c.words) judges (running-unjudged c.words is.0 is.1 is.2)),
      (λ none seven. let is = modes.1 seven in true_false (is_judging c.words) (judging-judged c.words is.0 is.1 is.2) none),
    )

-- ---- the greatest status

work_few : (status : ℕ) → IsOfWork status → status ≤ 7
work_few status (inl h) = omega arith
work_few status (inr h) = omega arith

broken_few : (status : ℕ) → IsBroken status → status ≤ 7
broken_few status (inl h) = omega arith
broken_few status (inr h) = omega arith

fault_few : (f : Fault) (status : ℕ) → status ≡ fault_status f → status ≤ 7
fault_few f status e = let range : IsOfFault (fault_status f) = status-of_fault f in omega arith

pub statuses_are_few : StatusesAreFew
statuses_are_few c _ (done w status l p n s) = work_few status (status-of_work w status (status-performed w _ _ status p))
statuses_are_few c _ (reported t d status l on p rs r) =
    elim (reported-status t d status _ _ _ _ _ p r) [
      | inl few ↦ work_few status (inl few)
      | inr broken ↦ broken_few status broken
    ]
statuses_are_few c _ (at_fault f status l o r) =
    elim (status-reported f _ _ status r) [
      | inl e ↦ fault_few f status e
      | inr broken ↦ broken_few status broken
    ]
statuses_are_few c _ (cannot_write w l p s) = omega arith
statuses_are_few c _ (starved_at_work w l p s) = omega arith
statuses_are_few c _ (starved_before l o s) = omega arith
