-- What comes of the answer of a solver.
use Rattle.std.proofs.Common.{◌≡◌, ◌≢◌, ℕ, ◌+◌, ◌&&◌, Bool, true, false, Option, Some, None, is_none, List, slice_get, take, refl, ap, sym, subst, ◌∙◌, Result, Ok, Err, IfOk, IfSome, OnErr, OnOk}
use Rattle.std.specs.Bool.{Decides}
use Rattle.std.proofs.lemmas.Bool.{true≢false, and_from, and_parts}
use Rattle.ps_world.specs.Knowledge.{edited}
use Rattle.ps_world.specs.declared.edits.Edit.{Edit}
use Rattle.ps_world.specs.declared.known.Knowledge.{Knowledge}
use Rattle.ps_world.proofs.Optionals.{is_none-none, none_not_some, some_same}
use Rattle.ps_action.specs.Search.{Fits, answer as answered_by}
use Rattle.ps_action.specs.declared.acts.Act.{Act}
use Rattle.ps_action.specs.declared.answers.Answer.{Answer}
use Rattle.ps_action.specs.declared.answers.Answer.TheVariants as answer
use Rattle.ps_machine.specs.declared.inputs.Input.{Input}
use Rattle.ps_machine.specs.declared.journal.By.{By}
use Rattle.ps_machine.specs.declared.journal.Event.{Event}
use Rattle.ps_machine.specs.declared.journal.Event.TheVariants as event
use Rattle.ps_machine.specs.declared.journal.Entry.{Entry}
use Rattle.ps_machine.specs.declared.journal.Outcome.{Outcome}
use Rattle.ps_machine.specs.declared.journal.Outcome.TheVariants as outcome
use Rattle.ps_rules.specs.Choices.{planned, wants_plan}
use Rattle.ps_rules.specs.Known.{know}
use Rattle.ps_rules.specs.Laws.{is_change}
use Rattle.ps_rules.specs.Legal.{ending, is_legal, is_outcome, is_plan}
use Rattle.ps_rules.specs.Runs.{is_running}
use Rattle.ps_rules.specs.Settled.{given_up, is_settled, verdict}
use Rattle.ps_rules.proofs.Choosing.{legal-live, plan-so}
use Rattle.ps_rules.proofs.SameThings.{same_outcome-decides}
use Rattle.ps_state.specs.Awaiting.{MayBegin, MayBePlan}
use Rattle.ps_state.proofs.Grounded.{good-each}
use Rattle.ps_board.specs.Parts.{BoardStands, Gains, GainsNothing, MayCome}
use Rattle.ps_board.specs.Kept.{IsKept, IsShown}
use Rattle.ps_board.specs.declared.submits.Submitted.{Submitted}
use Rattle.ps_board.specs.declared.submits.Submitted.TheVariants.{Taken, Stale}
use Rattle.ps_board.specs.declared.whole.Parts.{Parts}
use Rattle.ps_board.proofs.Granting.{Spares}
use Rattle.ps_board.proofs.Keeping.{by-option, kept-still, kept-turn, ticks-spare}
use Rattle.ps_stale_plan_laws.specs.Asked.{Counts, ends_plan, may_come}
use Rattle.ps_stale_plan_laws.proofs.Accepted.{edits_are_made}
use Rattle.ps_board.specs.Submits.{edit_in, taken_event}
use Rattle.ps_stale_plan_laws.specs.Asked.Counts.{planned as by_plan, changed as by_change}

-- ---- whether an entry counts

pub edit-by : (e : Event) (edit : Edit) → edit_in e ≡ Some edit → (by : By) × (e ≡ event.Edit by edit)
edit-by (event.Edit by f) edit is = (by, ap (event.Edit by) (some_same f edit is))
edit-by e edit is = none_not_some edit is

edit-plans-none : (e : Event) (edit : Edit) → edit_in e ≡ Some edit → ends_plan e ≡ false
edit-plans-none (event.Edit by f) edit is = refl
edit-plans-none e edit is = none_not_some edit is

-- what may come and is no edit leaves what is known
pub other-leaves : (e : Event) → edit_in e ≡ None → may_come e ≡ true → is_change e ≡ false
other-leaves (event.Edit by f) is h = absurd (cc)
other-leaves (event.Start act) is h = absurd (cc)
other-leaves (event.End act) is h = absurd (cc)
other-leaves e is h = refl

-- an edit counts where it changed what is known
pub edit-counts : (i : Input) (es : List Entry) (k : ℕ) (e : Entry) (edit : Edit) (new : Knowledge) (b : Bool) → slice_get es k ≡ Some e → edit_in e.what ≡ Some edit
    → new ≡ know i (take (k + 1) es) → Decides b (new ≢ know i (take k es)) → Decides b (Counts i es k)
edit-counts i es k e edit new b at is made d = (λ t. by_change (λ same. d.0 t (made ∙ sym same)), by-cause)
  where
    by-cause : Counts i es k → b ≡ true
    by-cause (by_plan f there ends) =
        absurd (true≢false (sym ends ∙ ap (λ x. ends_plan x.what) (some_same f e (sym there ∙ at)) ∙ edit-plans-none e.what edit is))
    by-cause (by_change differ) = d.1 (λ same. differ (sym same ∙ made))

-- anything else that may come counts where it ends the plan
pub other-counts : (i : Input) (es : List Entry) (k : ℕ) (e : Entry) → know i (take (k + 1) es) ≡ know i (take k es) → slice_get es k ≡ Some e → Decides (ends_plan e.what) (Counts i es k)
other-counts i es k e same at = (λ t. by_plan e at t, by-cause)
  where
    by-cause : Counts i es k → ends_plan e.what ≡ true
    by-cause (by_plan f there ends) = ap (λ x. ends_plan x.what) (some_same e f (sym at ∙ there)) ∙ ends
    by-cause (by_change differ) = absurd (differ (sym same))

-- an edit that an entry records was accepted, and made what is known after it
pub edit-made : (c : Parts) (k : ℕ) (e : Entry) (edit : Edit) (old : Knowledge) → BoardStands c → slice_get c.entries.items k ≡ Some e → edit_in e.what ≡ Some edit
    → old ≡ know c.input (take k c.entries.items) → edited c.state.expert old edit ≡ Ok (know c.input (take (k + 1) c.entries.items))
edit-made c k e edit old s at is known =
    let w = edit-by e.what edit is in
    ap (λ d. edited d old edit) s.kept.domain ∙ ap (λ x. edited c.input.domain x edit) known
    ∙ edits_are_made c.input c.entries.items k e w.0 edit s.history at w.1

ok-same : {R : Type 0} (k l : Knowledge) (r : Result Knowledge R) → r ≡ Ok k → r ≡ Ok l → k ≡ l
ok-same k l r e f = let same : Ok k ≡ Ok l = sym e ∙ f in cc

-- where it is made again it counts if that changes what is known
pub made-counts : {E : Type 0} (c : Parts) (k : ℕ) (e : Entry) (edit : Edit) (old new : Knowledge) (r : Result Bool E) → BoardStands c → slice_get c.entries.items k ≡ Some e → edit_in e.what ≡ Some edit
    → old ≡ know c.input (take k c.entries.items) → OnOk r (edited c.state.expert old edit ≡ Ok new) → IfOk r (λ b. Decides b (new ≢ old))
    → IfOk r (λ b. Decides b (Counts c.input c.entries.items k))
made-counts c k e edit old new (Err x) s at is known made changed = tt
made-counts c k e edit old new (Ok b) s at is known made changed =
    edit-counts c.input c.entries.items k e edit new b at is (ok-same new (know c.input (take (k + 1) c.entries.items)) _ made (edit-made c k e edit old s at is known))
    (subst (λ x. Decides b (new ≢ x)) known changed)

pub made-known : {E : Type 0} (c : Parts) (k : ℕ) (e : Entry) (edit : Edit) (old new : Knowledge) (r : Result Bool E) → BoardStands c → slice_get c.entries.items k ≡ Some e → edit_in e.what ≡ Some edit
    → old ≡ know c.input (take k c.entries.items) → OnOk r (edited c.state.expert old edit ≡ Ok new) → OnOk r (new ≡ know c.input (take (k + 1) c.entries.items))
made-known c k e edit old new (Err x) s at is known made = tt
made-known c k e edit old new (Ok b) s at is known made = ok-same new (know c.input (take (k + 1) c.entries.items)) _ made (edit-made c k e edit old s at is known)

-- ---- what follows an answer

-- an end may come that is the answer that is due
over-legal : (i : Input) (es : List Entry) (how : Outcome) → wants_plan i es ≡ true → given_up (answered_by i.domain (know i es) i.budget) ≡ Some how → is_legal i es (event.Over how) ≡ true
over-legal i es how wants due =
    let live = and_parts (is_running es) (is_settled i es && is_none (verdict i es)) wants in
    let settled = and_parts (is_settled i es) (is_none (verdict i es)) live.1 in
    let end : ending i es (verdict i es) ≡ Some how = ap (ending i es) (is_none-none (verdict i es) settled.1) ∙ due in
    legal-live i es (event.Over how) live.0 refl
    (and_from (is_settled i es) (is_outcome how (ending i es (verdict i es))) settled.0 (ap (is_outcome how) end ∙ (same_outcome-decides how how).1 refl))

replan-legal : (i : Input) (es : List Entry) (acts : List Act) → wants_plan i es ≡ true → Fits i.domain (know i es) i.budget (answer.Plan acts) → is_legal i es (event.Replan acts) ≡ true
replan-legal i es acts wants fit =
    let live = and_parts (is_running es) (is_settled i es && is_none (verdict i es)) wants in
    let settled = and_parts (is_settled i es) (is_none (verdict i es)) live.1 in
    legal-live i es (event.Replan acts) live.0 refl
    (and_from (is_settled i es) (is_none (verdict i es) && is_plan i.domain (know i es) i.budget acts) settled.0
    (and_from (is_none (verdict i es)) (is_plan i.domain (know i es) i.budget acts) settled.1 (plan-so i.domain (know i es) i.budget acts fit)))

-- what follows a solver's answer may come where the solver is asked
pub follows-legal : (i : Input) (es : List Entry) (a : Answer) (e : Event) → wants_plan i es ≡ true → Fits i.domain (know i es) i.budget a → planned a ≡ Some e → is_legal i es e ≡ true
follows-legal i es (answer.Plan acts) e wants fit made = ap (is_legal i es) (some_same e (event.Replan acts) (sym made)) ∙ replan-legal i es acts wants fit
follows-legal i es answer.NoPlan e wants fit made = ap (is_legal i es) (some_same e (event.Over outcome.NoPlan) (sym made)) ∙ over-legal i es outcome.NoPlan wants (ap given_up fit)
follows-legal i es (answer.Spent depth) e wants fit made =
    ap (is_legal i es) (some_same e (event.Over (outcome.Spent depth)) (sym made)) ∙ over-legal i es (outcome.Spent depth) wants (ap given_up fit)
follows-legal i es answer.TooMany e wants fit made = ap (is_legal i es) (some_same e (event.Over outcome.TooMany) (sym made)) ∙ over-legal i es outcome.TooMany wants (ap given_up fit)

-- the acts of a plan that follows can be grounded
pub follows-may : (c : Parts) (a : Answer) (e : Event) → BoardStands c → Fits c.input.domain (know c.input c.entries.items) c.input.budget a → planned a ≡ Some e → MayBegin e c.state
follows-may c (answer.Plan acts) e s fit made =
    let now : MayBePlan c.input.domain (know c.input c.entries.items) acts =
    record { few = fit.0.few; grounded = good-each c.input.domain (know c.input c.entries.items) acts fit.0.goes_well } in
    subst (λ x. MayBegin x c.state) (some_same (event.Replan acts) e made)
    (subst (λ d. MayBePlan d c.state.problem acts) (sym s.kept.domain) (subst (λ k. MayBePlan c.input.domain k acts) (sym s.kept.known) now))
follows-may c answer.NoPlan e s fit made = subst (λ x. MayBegin x c.state) (some_same (event.Over outcome.NoPlan) e made) tt
follows-may c (answer.Spent depth) e s fit made = subst (λ x. MayBegin x c.state) (some_same (event.Over (outcome.Spent depth)) e made) tt
follows-may c answer.TooMany e s fit made = subst (λ x. MayBegin x c.state) (some_same (event.Over outcome.TooMany) e made) tt

-- ---- what a board keeps after it

follows-spare : (i : Input) (grants : List (Option ℕ)) (a : Answer) → IfSome (planned a) (Spares i grants)
follows-spare i grants (answer.Plan acts) = ticks-spare i grants (event.Replan acts) refl
follows-spare i grants answer.NoPlan = ticks-spare i grants (event.Over outcome.NoPlan) refl
follows-spare i grants (answer.Spent depth) = ticks-spare i grants (event.Over (outcome.Spent depth)) refl
follows-spare i grants answer.TooMany = ticks-spare i grants (event.Over outcome.TooMany) refl

taken-spare : (i : Input) (grants : List (Option ℕ)) (s : Submitted) (a : Answer) → IfSome (taken_event s a) (Spares i grants)
taken-spare i grants Taken a = follows-spare i grants a
taken-spare i grants (Stale k) a = tt

kept-as : (c : Parts) (grants : List (Option ℕ)) (heard : List ℕ) (halted other : Bool) → IsKept c grants heard halted → (other ≡ true → is_running c.entries.items ≡ true) → IsKept c grants heard other
kept-as c grants heard halted other k live = record { parts = k.parts; shown = k.shown; out = k.out; heard = k.heard; live = live }

pub kept-submitted : {E : Type 0} (old mid new : Parts) (hand : ℕ) (grants : List (Option ℕ)) (heard : List ℕ) (halted running : Bool) (a : Answer) (r : Result Submitted E)
    → IsKept old grants heard halted → BoardStands new → IsShown new → new.input ≡ mid.input → new.entries.items ≡ mid.entries.items
    → IfOk r (λ s. Gains hand (taken_event s a) old mid) → OnErr r (GainsNothing old mid)
    → IfOk r (λ s. IfSome (taken_event s a) (MayCome old)) → running ≡ is_running new.entries.items → IsKept new grants heard (halted && running)
kept-submitted old mid new hand grants heard halted running a r k stands shown input entries did err legal live =
    kept-as new grants heard false (halted && running) (by-result r did err legal) (λ h. sym live ∙ (and_parts halted running h).1)
  where
    calm : IsKept old grants heard false
    calm = kept-as old grants heard halted false k (λ h. absurd (true≢false (sym h)))

    by-result : {E : Type 0} (r : Result Submitted E) → IfOk r (λ s. Gains hand (taken_event s a) old mid) → OnErr r (GainsNothing old mid)
        → IfOk r (λ s. IfSome (taken_event s a) (MayCome old)) → IsKept new grants heard false
    by-result (Ok s) did err legal =
        kept-turn old new hand grants heard false (taken_event s a) calm stands shown (input ∙ did.input) (entries ∙ did.entries) legal (taken-spare old.input grants s a) (λ h. absurd (true≢false (sym h)))
    by-result (Err e) did err legal = kept-still old new grants heard false calm stands shown (input ∙ err.input) (entries ∙ err.entries)

pub still-halted : (halted running : Bool) → (halted ≡ true → running ≡ true) → (halted && running) ≡ halted
still-halted true running live = live refl
still-halted false running live = refl

pub taken-legal : (c : Parts) (a : Answer) → BoardStands c → wants_plan c.input c.entries.items ≡ true → Fits c.input.domain (know c.input c.entries.items) c.input.budget a
    → IfSome (planned a) (MayCome c)
taken-legal c a s wants fit = by-option (MayCome c) (planned a) (λ e is. follows-legal c.input c.entries.items a e wants fit is)
