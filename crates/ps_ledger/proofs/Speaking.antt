-- Legal events speak of what is there.
use Rattle.std.proofs.Common.{◌≡◌, ℕ, zero, suc, ◌<◌, ◌≤◌, ◌==◌, ◌&&◌, nat_le, nat_lt, Bool, true, false, not, Option, Some, None, is_none, is_ok, option_and_then, if◌then◌else◌, List, [], ◌∷◌, find, length, min, ◌-◌, All, slice_get, slice_index_or, refl, ap, sym, subst, arith, ◌∙◌}
use Rattle.std.proofs.lemmas.Bool.{true≢false, and_from, and_parts}
use Rattle.std.proofs.lemmas.Bool.Decides.{nat_tests}
use Rattle.std.proofs.lemmas.Option.{none-some, slice_get_within}
use Rattle.std.specs.Option.{option_map_or, unwrap_or}
use Rattle.ps_world.specs.Names.{same_name}
use Rattle.ps_world.specs.Knowledge.{edited}
use Rattle.ps_world.specs.declared.names.Name.{Name}
use Rattle.ps_action.specs.declared.states.ActState.{ActState}
use Rattle.ps_action.specs.declared.states.ActState.TheVariants.{Waiting}
use Rattle.ps_machine.specs.declared.inputs.Input.{Input}
use Rattle.ps_machine.specs.declared.members.Unit.{Unit as Task}
use Rattle.ps_machine.specs.declared.journal.By.TheVariants as by
use Rattle.ps_machine.specs.declared.journal.FailWhy.TheVariants as fail
use Rattle.ps_machine.specs.declared.journal.RunKind.{RunKind}
use Rattle.ps_machine.specs.declared.journal.RunKind.TheVariants as run
use Rattle.ps_machine.specs.declared.journal.Outcome.{Outcome}
use Rattle.ps_machine.specs.declared.journal.Outcome.TheVariants as outcome
use Rattle.ps_machine.specs.declared.journal.Event.{Event}
use Rattle.ps_machine.specs.declared.journal.Event.TheVariants as event
use Rattle.ps_machine.specs.declared.journal.Entry.{Entry}
use Rattle.ps_rules.specs.Runs.{is_active, kind, replans}
use Rattle.ps_rules.specs.Auctions.{confirmed, first_offer, is_for_active, is_for_cancelled, is_open, is_through, is_unserved, is_working, begins, has_begun, offers, requests, request_of, units_done}
use Rattle.ps_rules.specs.Known.{know}
use Rattle.ps_rules.specs.Lines.{edit_refusal}
use Rattle.ps_rules.specs.Members.{as_edit, job, next_edit, next_unit, performer_of, performers, unit_of}
use Rattle.ps_rules.specs.Legal.{is_act_active, is_cause, is_confirmed, is_edit, is_feedback, is_finish, is_place, is_plan, is_work, may_be_put_up, row_allows}
use Rattle.ps_rules.specs.Settled.{any_harmed, is_blocked, is_reached, is_ready, is_settled, is_startable, unreached, verdict}
use Rattle.ps_rules.specs.Laws.{speaks_of}
use Rattle.ps_rules.specs.Sound.{IsSound, IsSoundJob, IsSoundPerformer}
use Rattle.ps_rules.proofs.Kept.{works-where}
use Rattle.ps_ledger.specs.declared.acts.Acts.{Acts}
use Rattle.ps_ledger.specs.declared.runs.Run.{Run}
use Rattle.ps_ledger.specs.declared.work.Job.{Job}
use Rattle.ps_ledger.specs.declared.work.Work.{Work}
use Rattle.ps_ledger.specs.Acts.{speaks_of_acts, TellsActs}
use Rattle.ps_ledger.specs.Runs.{speaks_of_run, TellsRun}
use Rattle.ps_ledger.specs.Work.{has_job, has_unit, is_by, job_at, speaks_of_jobs, TellsJobs, TellsUnits, TellsWork}

-- ---- acts

-- an act that is active is there
active-there : (xs : List ActState) (k : ℕ) → is_active (slice_index_or xs k Waiting) ≡ true → nat_lt k (length xs) ≡ true
active-there [] k h = absurd (true≢false (sym h))
active-there (x ∷ xs) zero h = grind (arith, nat_tests)
active-there (x ∷ xs) (suc k) h = let more = active-there xs k h in grind (arith, nat_tests, more)

act-there : (es : List Entry) (l : Acts) (act : ℕ) → TellsActs es l → is_act_active es act ≡ true → nat_lt act (length l.states.items) ≡ true
act-there es l act t h = active-there l.states.items act (sym (ap is_active (t.states act)) ∙ h)

-- a legal event speaks of acts that are there
pub acts-there : (i : Input) (es : List Entry) (e : Event) (l : Acts) → TellsActs es l → row_allows i es e ≡ true → speaks_of_acts (length l.states.items) e ≡ true
acts-there i es (event.Start act) l t f =
    ap (nat_lt act) (t.many ∙ ap length (sym t.acts)) ∙ (and_parts (is_place es act) (is_ready i es act && (is_startable i es act && not (any_harmed es))) f).0
acts-there i es (event.Request r act) l t f =
    act-there es l act t (and_parts (is_act_active es act) (may_be_put_up i es act (request_of act es)) (and_parts (r == requests es) (is_act_active es act && may_be_put_up i es act (request_of act es)) f).1).0
acts-there i es (event.End act) l t f = act-there es l act t (and_parts (is_act_active es act) _ f).0
acts-there i es (event.Fail act fail.NoPerformer) l t f = act-there es l act t (and_parts (is_act_active es act) _ f).0
acts-there i es (event.Fail act fail.Script) l t f = act-there es l act t (and_parts (is_act_active es act) _ f).0
acts-there i es (event.Fail act fail.AtEnd) l t f = act-there es l act t (and_parts (is_act_active es act) _ f).0
acts-there i es (event.Fail act fail.Effect) l t f = act-there es l act t (and_parts (is_act_active es act) _ f).0
acts-there i es (event.Cancel act why) l t f = absurd (true≢false (sym f))
acts-there i es e l t f = refl

-- ---- runs

inner-none : (x y : Bool) (a b : Outcome) → is_none (if x then Some a else (if y then Some b else None)) ≡ true → y ≡ false
inner-none true y a b h = absurd (true≢false (sym h))
inner-none false true a b h = absurd (true≢false (sym h))
inner-none false false a b h = refl

-- where the solver is asked, the run may be planned anew
may-replan : (i : Input) (es : List Entry) (for : Option RunKind) (reached : Bool) → is_none (if reached then Some outcome.Success else unreached i es for) ≡ true
    → nat_le i.replans (replans es) ≡ false
may-replan i es for true h = absurd (true≢false (sym h))
may-replan i es (Some run.Action) false h = absurd (true≢false (sym h))
may-replan i es (Some run.Goal) false h = inner-none (is_none (know i es).goal) (nat_le i.replans (replans es)) outcome.NoGoal (if is_blocked i es then outcome.Blocked else outcome.Replans) h
may-replan i es (Some run.Plan) false h = inner-none (is_none (know i es).goal) (nat_le i.replans (replans es)) outcome.NoGoal (if is_blocked i es then outcome.Blocked else outcome.Replans) h
may-replan i es None false h = inner-none (is_none (know i es).goal) (nat_le i.replans (replans es)) outcome.NoGoal (if is_blocked i es then outcome.Blocked else outcome.Replans) h

fewer : (most n : ℕ) → most ≤ 255 → nat_le most n ≡ false → nat_lt n 255 ≡ true
fewer most n le h = grind (arith, nat_tests, le, h)

-- a legal event plans a run anew only where it may be
pub run-there : (i : Input) (es : List Entry) (e : Event) (l : Run) → i.replans ≤ 255 → TellsRun es l → row_allows i es e ≡ true → speaks_of_run l e ≡ true
run-there i es (event.Replan acts) l few t f =
    let asked : is_none (verdict i es) ≡ true = (and_parts (is_none (verdict i es)) (is_plan i.domain (know i es) i.budget acts) (and_parts (is_settled i es) (is_none (verdict i es) && is_plan i.domain (know i es) i.budget acts) f).1).0 in
    ap (λ n. nat_lt n 255) (sym t.anew) ∙ fewer i.replans (replans es) few (may-replan i es (kind es) (is_reached i es (kind es)) asked)
run-there i es e l few t f = refl

-- ---- work

-- a test that nothing passes is passed by what something gives
pub some-in : {A B : Type 0} (test : Option B → Bool) (f : A → Option B) → test None ≡ false → (o : Option A) → test (option_and_then f o) ≡ true → (x : A) × (o ≡ Some x) × (test (f x) ≡ true)
some-in test f none None h = absurd (true≢false (sym h ∙ none))
some-in test f none (Some x) h = (x, refl, h)

some-of : {B : Type 0} (test : Option B → Bool) → test None ≡ false → (o : Option B) → test o ≡ true → (x : B) × (o ≡ Some x)
some-of test none None h = absurd (true≢false (sym h ∙ none))
some-of test none (Some x) h = (x, refl)

inner-test : {B : Type 0} (test : Option B → Bool) → test None ≡ false → (b : Bool) (x : Option B) → test (if b then x else None) ≡ true → test x ≡ true
inner-test test none true x h = h
inner-test test none false x h = absurd (true≢false (sym h ∙ none))

inside : {A : Type 0} (x y : A) → Some y ≡ Some x → y ≡ x
inside x y h = ap (λ o. unwrap_or o y) h

-- what holds of all items holds of one that is found, and of one at a place
tail-all : {A : Type 0} (P : A → Type 0) (y : A) (ys : List A) → All P (y ∷ ys) → All P ys
tail-all P y ys all = λ k d lt. all (suc k) d (omega (arith, lt))

found-case : {A : Type 0} (P : A → Type 0) (b : Bool) (y x : A) (rest : Option A) → P y → (rest ≡ Some x → P x) → (if b then Some y else rest) ≡ Some x → P x
found-case P true y x rest here more h = subst P (inside x y h) here
found-case P false y x rest here more h = more h

found-all : {A : Type 0} (P : A → Type 0) (test : A → Bool) (xs : List A) (x : A) → All P xs → find test xs ≡ Some x → P x
found-all P test [] x all h = absurd (none-some x h)
found-all P test (y ∷ ys) x all h = found-case P (test y) y x (find test ys) (all 0 y (omega (arith))) (found-all P test ys x (tail-all P y ys all)) h

placed-all : {A : Type 0} (P : A → Type 0) (xs : List A) (k : ℕ) (x : A) → All P xs → slice_get xs k ≡ Some x → P x
placed-all P [] k x all h = absurd (none-some x h)
placed-all P (y ∷ ys) zero x all h = subst P (inside x y h) (all 0 y (omega (arith)))
placed-all P (y ∷ ys) (suc k) x all h = placed-all P ys k x (tail-all P y ys all) h

-- who does a unit on a request works there, and has done fewer than 1,000
few-units : (i : Input) (s : ℕ) (q : Name) (es : List Entry) → IsSound i → (test : Option Task → Bool) → test None ≡ false → test (next_unit i s q es) ≡ true
    → (is_working s q es ≡ true) × (units_done s q es < 1000)
few-units i s q es sound test none h =
    let inner : Option Task = option_and_then (λ performer. unit_of performer s q es) (performer_of i q) in
    let passed : test inner ≡ true = inner-test test none (is_working s q es && is_for_active s es) inner h in
    let one = some-in test (λ performer. unit_of performer s q es) none (performer_of i q) passed in
    let two = some-in test (λ units. slice_get units (units_done s q es)) none (job one.0 (begins q es)) one.2 in
    let last = some-of test none (slice_get two.0 (units_done s q es)) two.2 in
    let performer : IsSoundPerformer i.domain one.0 = found-all (IsSoundPerformer i.domain) (λ performer. same_name q performer.name) (performers i) one.0 sound.each_performer one.1 in
    let units : IsSoundJob two.0 = placed-all IsSoundJob one.0.jobs (min (begins q es) (length one.0.jobs) - 1) two.0 performer.jobs two.1 in
    let done : units_done s q es < length two.0 = slice_get_within two.0 (units_done s q es) last.0 last.1 in
    (works-where test none (is_working s q es) (is_for_active s es) inner h, omega (arith, done, units.short))

unit-there : (i : Input) (s : ℕ) (q : Name) (es : List Entry) (l : Work) → IsSound i → TellsJobs es l → TellsWork es l → TellsUnits es l → nat_lt s (requests es) ≡ true
    → (test : Option Task → Bool) → test None ≡ false → test (next_unit i s q es) ≡ true → has_unit l.jobs.items s q ≡ true
unit-there i s q es l sound j w u there test none h =
    let few = few-units i s q es sound test none h in
    let job : Job = job_at l.jobs.items s in
    let mine : is_by job.by q ≡ true = (and_parts (is_by job.by q) job.works (sym (w.works s q) ∙ few.0)).0 in
    let same : units_done s q es ≡ job.units = u.counts s q ∙ ap (λ b. if b then job.units else 0) mine in
    let lt : job.units < 1000 = omega (arith, few.1, same) in
    and_from (nat_lt s (length l.jobs.items)) (is_by job.by q && nat_lt job.units 1000) (sym (ap (nat_lt s) j.count) ∙ there)
    (and_from (is_by job.by q) (nat_lt job.units 1000) mine (grind (arith, nat_tests, lt)))

job-there : (s : ℕ) (q : Name) (es : List Entry) (l : Work) → TellsJobs es l → TellsWork es l → nat_lt s (requests es) ≡ true → is_confirmed s q es ≡ true → has_job l.jobs.items s q ≡ true
job-there s q es l j w there h =
    and_from (nat_lt s (length l.jobs.items)) (is_by (job_at l.jobs.items s).by q) (sym (ap (nat_lt s) j.count) ∙ there)
    (ap (λ o. option_map_or (same_name q) o false) (sym (w.confirms s)) ∙ h)

-- a legal event speaks of work by those who were confirmed
pub jobs-there : (i : Input) (es : List Entry) (e : Event) (l : Work) → IsSound i → TellsJobs es l → TellsWork es l → TellsUnits es l → speaks_of (requests es) e ≡ true → row_allows i es e ≡ true
    → speaks_of_jobs l.jobs.items e ≡ true
jobs-there i es (event.Request r act) l sound j w u sp f = sym (ap (λ n. r == n) j.count) ∙ sp
jobs-there i es (event.Confirm s q) l sound j w u sp f =
    let parts = and_parts (is_open s es) (option_map_or (same_name q) (first_offer (offers s es)) false) f in
    let fine = and_parts (is_none (confirmed s es)) (not (is_unserved s es)) ((and_parts (is_for_active s es) (is_none (confirmed s es) && not (is_unserved s es)) parts.0).1) in
    and_from (nat_lt s (length l.jobs.items)) (is_none (job_at l.jobs.items s).by) (sym (ap (nat_lt s) j.count) ∙ sp) (ap is_none (sym (w.confirms s)) ∙ fine.0)
jobs-there i es (event.Begin s q) l sound j w u sp f = job-there s q es l j w sp (and_parts (is_confirmed s q es) (not (has_begun s q es) && is_for_active s es) f).0
jobs-there i es (event.Stopped s q) l sound j w u sp f = job-there s q es l j w sp (and_parts (is_confirmed s q es) (not (is_through s q es) && is_for_cancelled s es) f).0
jobs-there i es (event.Edit (by.Performer s q) edit) l sound j w u sp f =
    unit-there i s q es l sound j w u sp (λ u. is_edit edit (option_and_then as_edit u)) refl (and_parts (is_edit edit (next_edit i s q es)) (is_ok (edited i.domain (know i es) edit)) f).0
jobs-there i es (event.Refused (by.Performer s q) why) l sound j w u sp f =
    unit-there i s q es l sound j w u sp (λ u. is_cause why (option_and_then (λ edit. edit_refusal (edited i.domain (know i es) edit)) (option_and_then as_edit u))) refl f
jobs-there i es (event.UnitWork s q) l sound j w u sp f = unit-there i s q es l sound j w u sp is_work refl f
jobs-there i es (event.Feedback s q percent text) l sound j w u sp f = unit-there i s q es l sound j w u sp (is_feedback percent text) refl f
jobs-there i es (event.Finish s q ok) l sound j w u sp f = unit-there i s q es l sound j w u sp (is_finish ok) refl f
jobs-there i es e l sound j w u sp f = refl
