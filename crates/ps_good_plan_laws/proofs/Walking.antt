-- The entries of a plan that was good where it begins, one after another.
use Rattle.std.proofs.Common.{◌≡◌, ℕ, ◌<◌, ◌==◌, ◌&&◌, ◌||◌, Bool, true, false, not, Option, Some, None, is_none, Ok, is_ok, List, [], ◌∷◌, ◌++◌, length, filter, map, if◌then◌else◌, nat_le, refl, arith, ap, sym, ◌∙◌, subst, inl, inr}
use Rattle.std.specs.List.{AllByRecursion, list_all, list_any}
use Rattle.std.specs.Option.{unwrap_or}
use Rattle.std.proofs.lemmas.Bool.{lt-ltb, true≢false, and_parts}
use Rattle.ps_world.specs.CondViews.{cond_tree}
use Rattle.ps_world.specs.declared.conditions.Cond.{Cond}
use Rattle.ps_world.specs.declared.domains.Domain.{Domain}
use Rattle.ps_world.specs.declared.known.Knowledge.{Knowledge}
use Rattle.ps_world.proofs.Truths.{not_not}
use Rattle.ps_action.specs.Plans.{judged}
use Rattle.ps_action.specs.Search.{answer as answered_by}
use Rattle.ps_action.specs.declared.acts.Act.{Act}
use Rattle.ps_action.specs.declared.answers.Answer.{Answer}
use Rattle.ps_action.specs.declared.answers.Answer.TheVariants as answer
use Rattle.ps_machine.specs.declared.inputs.Input.{Input}
use Rattle.ps_machine.specs.declared.inputs.Line.{Line}
use Rattle.ps_machine.specs.declared.inputs.Line.TheVariants.{Good}
use Rattle.ps_machine.specs.declared.inputs.Command.TheVariants as command
use Rattle.ps_action.specs.declared.states.ActState.{ActState}
use Rattle.ps_action.specs.declared.states.ActState.TheVariants.{Waiting, Active, Done}
use Rattle.ps_action.proofs.Contained.{or_cases}
use Rattle.ps_machine.specs.declared.journal.RunKind.{RunKind}
use Rattle.ps_machine.specs.declared.journal.RunKind.TheVariants as run
use Rattle.ps_machine.specs.declared.journal.FailWhy.TheVariants as fail
use Rattle.ps_machine.specs.declared.journal.CancelWhy.TheVariants as cancel
use Rattle.ps_machine.specs.declared.journal.Outcome.{Outcome}
use Rattle.ps_machine.specs.declared.journal.Outcome.TheVariants as outcome
use Rattle.ps_machine.specs.declared.journal.Event.{Event}
use Rattle.ps_machine.specs.declared.journal.Event.TheVariants as event
use Rattle.ps_machine.specs.declared.journal.Entry.{Entry}
use Rattle.ps_order_laws.specs.Orders.{Stage, running, ended, all_waiting}
use Rattle.ps_arcs.specs.Commuting.{IsGood, TellTheSame}
use Rattle.ps_arcs.specs.Beginnings.Come.{opened as come_opened}
use Rattle.ps_arcs.proofs.Commuting.{truth_reads_what_is_told}
use Rattle.ps_rules.specs.Reading.{only_if}
use Rattle.ps_rules.specs.Runs.{is_active, is_done, is_harmed, is_running, kind, plan, replans, says_state, state}
use Rattle.ps_rules.specs.Auctions.{is_engaged}
use Rattle.ps_rules.specs.Known.{grounds, know}
use Rattle.ps_rules.specs.Lines.{next_line}
use Rattle.ps_rules.specs.Members.{observers, performers, seen_by}
use Rattle.ps_rules.specs.Settled.{places, any_harmed, ends_well, unreached, given_up, is_blocked, is_met, is_reached, is_ready, is_settled, is_startable, may_end, may_go_on, verdict}
use Rattle.ps_rules.specs.Legal.{ending, is_act_active, is_finished, is_legal, is_outcome, is_plan, opens_with, row_allows, same_flag}
use Rattle.ps_rules.specs.History.{any_of, broken, cancels, forced, forced_after, is_fail, IsHistory, unbroken}
use Rattle.ps_rules.specs.Prefixes.{Leads}
use Rattle.ps_rules.specs.Laws.{is_cancel}
use Rattle.ps_rules.proofs.Kept.{fits-legal}
use Rattle.ps_rules.proofs.Pushed.{know-push, read-push}
use Rattle.ps_rules.proofs.SameThings.{same_outcome-decides}
use Rattle.ps_rules.proofs.Between.{filter-none}
use Rattle.ps_good_plan_laws.specs.Segments.{ends_plan, is_edit, is_given_up, is_own_fault, IsOfOnePlan, JournalsGoWell, makes_good_plan, NoEditCounts, NoneIs}
use Rattle.ps_good_plan_laws.proofs.Grounded.{good_of, Good as GoodOne}
use Rattle.ps_good_plan_laws.proofs.Following.{after, all_in, is_through, runs_now}
use Rattle.ps_good_plan_laws.proofs.Going.{active_ends, any_in, cancel_next, GoesAfter, GoesAt, goes_next, goes-push, going, is_for_act, ready_starts}
use Rattle.ps_good_plan_laws.proofs.Leading.{from_history, head_of}

-- ---- lists

none_any : (test : ℕ → Bool) → ((b : ℕ) → test b ≡ false) → (xs : List ℕ) → list_any test xs ≡ false
none_any test h [] = refl
none_any test h (x ∷ xs) = rw (h x) (none_any test h xs)

-- ---- what a run ends with

met_same : (d : Domain) (k l : Knowledge) (goal : Option Cond) → TellTheSame k l → is_met d k goal ≡ is_met d l goal
met_same d k l None t = refl
met_same d k l (Some c) t = truth_reads_what_is_told d k l (cond_tree c ∷ []) t

-- an outcome that is given is that one
given : (o p : Outcome) → is_outcome o (Some p) ≡ true → o ≡ p
given o p h = (same_outcome-decides o p).0 h

not_given_up : (a : Answer) → is_outcome outcome.Blocked (given_up a) ≡ true → ⊥
not_given_up (answer.Plan plan) e = absurd (cc)
not_given_up answer.NoPlan e = let same = given outcome.Blocked outcome.NoPlan e in absurd (cc)
not_given_up (answer.Spent depth) e = let same = given outcome.Blocked (outcome.Spent depth) e in absurd (cc)
not_given_up answer.TooMany e = let same = given outcome.Blocked outcome.TooMany e in absurd (cc)

-- the verdict by its tests
abbrev verdict_by : Bool → Bool → Bool → Bool → Option Outcome
verdict_by reached none late blocked =
    if reached then Some outcome.Success
    else (if none then Some outcome.NoGoal else (if late then Some (if blocked then outcome.Blocked else outcome.Replans) else None))

only_blocked : (i : Input) (es : List Entry) (r n l b : Bool) → is_outcome outcome.Blocked (ending i es (verdict_by r n l b)) ≡ true → b ≡ true
only_blocked i es true n l b e = let same = given outcome.Blocked outcome.Success e in absurd (cc)
only_blocked i es false true l b e = let same = given outcome.Blocked outcome.NoGoal e in absurd (cc)
only_blocked i es false false true true e = refl
only_blocked i es false false true false e = let same = given outcome.Blocked outcome.Replans e in absurd (cc)
only_blocked i es false false false b e = absurd (not_given_up (answered_by i.domain (know i es) i.budget) e)

-- that of a run that isn't for one act
verdict_of : (i : Input) (es : List Entry) (for : Option RunKind) → is_for_act for ≡ false
    → (if is_reached i es for then Some outcome.Success else unreached i es for)
    ≡ verdict_by (is_met i.domain (know i es) (know i es).goal) (is_none (know i es).goal) (nat_le i.replans (replans es)) (is_blocked i es)
verdict_of i es None h = refl
verdict_of i es (Some run.Goal) h = refl
verdict_of i es (Some run.Plan) h = refl
verdict_of i es (Some run.Action) h = absurd (cc)

-- ---- stops

-- a cancel of a started act, after a failure
abbrev IsStop : (ℕ → Stage) → Event → Type 0
IsStop now (event.Cancel act cancel.Stop) = now act ≡ running
IsStop now e = ⊥

abbrev AreStops : (ℕ → Stage) → List Entry → Type 0
AreStops now due = AllByRecursion (λ c. IsStop now c.what) due

stop_is_none : (now : ℕ → Stage) (e : Event) → IsStop now e → is_own_fault e ≡ false
stop_is_none now (event.Cancel act cancel.Stop) h = refl
stop_is_none now e h = absurd h

stop_few : (now : ℕ → Stage) (hand : ℕ) (test : ℕ → Bool) → ((b : ℕ) → test b ≡ true → now b ≡ running) → (xs : List ℕ) → AreStops now (map (cancels hand cancel.Stop) (filter test xs))
stop_few now hand test h [] = tt
stop_few now hand test h (x ∷ xs) =
    let cases : (b : Bool) → test x ≡ b → AreStops now (map (cancels hand cancel.Stop) (if b then x ∷ filter test xs else filter test xs)) =
    λ b. elim b as (λ b. test x ≡ b → AreStops now (map (cancels hand cancel.Stop) (if b then x ∷ filter test xs else filter test xs))) [
      | true ↦ λ e. (h x e, stop_few now hand test h xs)
      | false ↦ λ e. stop_few now hand test h xs
    ] in
    cases (test x) refl

-- what is forced where nothing is broken
forced_alone : (i : Input) (es : List Entry) (hand : ℕ) (b : Bool) (bs : List ℕ) → bs ≡ []
    → (map (cancels hand cancel.OverAll) bs ++ (if b || any_of bs then map (cancels hand cancel.Stop) (unbroken i es) else []))
    ≡ (if b then map (cancels hand cancel.Stop) (unbroken i es) else [])
forced_alone i es hand true bs e = ap (λ bs. map (cancels hand cancel.OverAll) bs ++ map (cancels hand cancel.Stop) (unbroken i es)) e
forced_alone i es hand false bs e = ap (λ bs. map (cancels hand cancel.OverAll) bs ++ (if any_of bs then map (cancels hand cancel.Stop) (unbroken i es) else [])) e

-- ---- the walk

module _ (i : Input) (acts : List Act) (first last : Knowledge) (good : IsGood i.domain first (grounds i.domain acts) last) (each : length (grounds i.domain acts) ≡ length acts) where
  abbrev At : List Entry → (ℕ → Stage) → Type 0
  At = GoesAt i acts first last good each

  -- the run isn't blocked
  not_blocked : (es : List Entry) (now : ℕ → Stage) → At es now → is_blocked i es ≡ true → ⊥
  not_blocked es now g b =
      let rest : Bool = list_all (λ o. is_none (seen_by i o es)) (observers i) in
      let w = (and_parts (not (any_harmed es)) (list_any (is_ready i es) (places es) && (list_all (λ act. not (is_ready i es act) || not (is_startable i es act)) (places es) && rest)) b).1 in
      let u = and_parts (list_any (is_ready i es) (places es)) (list_all (λ act. not (is_ready i es act) || not (is_startable i es act)) (places es) && rest) w in
      let one = any_in (is_ready i es) 0 (length (plan es)) u.0 in
      let tests = (and_parts (list_all (λ act. not (is_ready i es act) || not (is_startable i es act)) (places es)) rest u.1).0 in
      let test : (not (is_ready i es one.0) || not (is_startable i es one.0)) ≡ true = all_in (λ act. not (is_ready i es act) || not (is_startable i es act)) 0 (length (plan es)) one.0 tests one.1 one.2 in
      let within : one.0 < length (plan es) = (let l = one.2 in omega (arith, l)) in
      let starts = ready_starts i acts first last good each es now one.0 g (lt-ltb one.0 (length (plan es)) within) one.3 in
      true≢false (sym test ∙ ap (λ b. not b || not (is_startable i es one.0)) one.3 ∙ ap not starts)

  -- a legal event tells of no fault of the plan's own
  no_own_fault : (es : List Entry) (now : ℕ → Stage) (e : Event) → At es now → row_allows i es e ≡ true → is_own_fault e ≡ false
  no_own_fault es now (event.Fail act fail.AtEnd) g f =
      let w = and_parts (is_act_active es act) (is_finished true es act && not (may_end i es act)) f in
      let u = (and_parts (is_finished true es act) (not (may_end i es act)) w.1).1 in
      let ends = (active_ends i acts first last good each es now act g w.0).1 in
      absurd (true≢false (sym u ∙ ap not ends))
  no_own_fault es now (event.Fail act fail.Effect) g f =
      let w = and_parts (is_act_active es act) (is_finished true es act && (may_end i es act && not (ends_well i es act))) f in
      let u = (and_parts (may_end i es act) (not (ends_well i es act)) (and_parts (is_finished true es act) (may_end i es act && not (ends_well i es act)) w.1).1).1 in
      let ends = (active_ends i acts first last good each es now act g w.0).2 in
      absurd (true≢false (sym u ∙ ap not ends))
  no_own_fault es now (event.Cancel act cancel.OverAll) g f = absurd (true≢false (sym f))
  no_own_fault es now (event.Over outcome.Blocked) g f =
      let w = (and_parts (is_settled i es) (is_outcome outcome.Blocked (ending i es (verdict i es))) f).1 in
      let v = verdict_of i es (kind es) g.by_goal in
      let b = only_blocked i es (is_met i.domain (know i es) (know i es).goal) (is_none (know i es).goal) (nat_le i.replans (replans es)) (is_blocked i es)
      (sym (ap (λ v. is_outcome outcome.Blocked (ending i es v)) v) ∙ w) in
      absurd (not_blocked es now g b)
  no_own_fault es now e g f = refl

  -- ---- what is forced

  none_broken : (es : List Entry) (now : ℕ → Stage) → At es now → broken i es ≡ []
  none_broken es now g = filter-none (λ act. is_active (state act es) && not (may_go_on i es act)) fine (places es)
    where
      fine : (act : ℕ) → (is_active (state act es) && not (may_go_on i es act)) ≡ false
      fine act =
          let cases : (b : Bool) → is_act_active es act ≡ b → (b && not (may_go_on i es act)) ≡ false = λ b. elim b as (λ b. is_act_active es act ≡ b → (b && not (may_go_on i es act)) ≡ false) [
            | true ↦ λ e. ap not (active_ends i acts first last good each es now act g e).0
            | false ↦ λ e. refl
          ] in
          cases (is_act_active es act) refl

  forced_so : (es : List Entry) (now : ℕ → Stage) (hand : ℕ) (e : Event) → At es now → forced_after i es hand e ≡ (if is_fail e then map (cancels hand cancel.Stop) (unbroken i es) else [])
  forced_so es now hand e g = forced_alone i es hand (is_fail e) (broken i es) (none_broken es now g)

  forced_stops : (es : List Entry) (now : ℕ → Stage) (hand : ℕ) (e : Event) → At es now → AreStops now (forced_after i es hand e)
  forced_stops es now hand e g = subst (AreStops now) (sym (forced_so es now hand e g)) (by_fail (is_fail e))
    where
      by_fail : (b : Bool) → AreStops now (if b then map (cancels hand cancel.Stop) (unbroken i es) else [])
      by_fail true =
          stop_few now hand (λ act. is_active (state act es) && may_go_on i es act)
          (λ b e. runs_now i acts es now b g.follows (and_parts (is_active (state b es)) (may_go_on i es b) e).0) (places es)
      by_fail false = tt

  stop_next : (es : List Entry) (now : ℕ → Stage) (e : Event) → At es now → IsStop now e → GoesAfter i acts first last good each es e now
  stop_next es now (event.Cancel act cancel.Stop) g h = cancel_next i acts first last good each es now act cancel.Stop g h
  stop_next es now e g h = absurd h

  -- an entry that is legal, doesn't end the plan and is no edit that counts
  goes_on : (es : List Entry) (now : ℕ → Stage) (e : Entry) → At es now → is_legal i es e.what ≡ true → ends_plan e.what ≡ false
      → (is_edit e.what ≡ true → TellTheSame (know i es) (know i (es ++ e ∷ []))) → At (es ++ e ∷ []) (after now e.what)
  goes_on es now e g legal stays same =
      goes-push i acts first last good each es e (after now e.what)
      (goes_next i acts first last good each es now e.what g legal stays (λ edits. subst (λ k. TellTheSame (know i es) k) (know-push i es e) (same edits)))

  -- ---- no fault of the plan's own

  walk : (before due es rest end : List Entry) (now : ℕ → Stage) → Leads i before due (es ++ rest) end → At before now → AreStops now due
      → IsOfOnePlan es → NoEditCounts i before es → AllByRecursion (λ f. is_own_fault f.what ≡ false) es
  walk before due [] rest end now l g stops one same = tt
  walk before due (e ∷ []) rest end now l g stops one same =
      elim (head_of i before due (e ∷ rest) end l) [
        | inl w ↦ (stop_is_none now e.what (subst (AreStops now) w.1 stops).0, tt)
        | inr w ↦ (no_own_fault before now e.what g (fits-legal i before e.what w.1), tt)
      ]
  walk before due (e ∷ f ∷ es) rest end now l g stops one same =
      elim (head_of i before due (e ∷ f ∷ (es ++ rest)) end l) [
        | inl w ↦
            let s = subst (AreStops now) w.1 stops in (
              stop_is_none now e.what s.0,
              walk (before ++ e ∷ []) w.0 (f ∷ es) rest end now w.2
                  (goes-push i acts first last good each before e now (stop_next before now e.what g s.0)) s.1 one.1 same.1,
            )
        | inr w ↦
            let now_then = after now e.what in
            let there = goes_on before now e g w.1 one.0 same.0 in (
              no_own_fault before now e.what g (fits-legal i before e.what w.1),
              walk (before ++ e ∷ []) (forced i before e) (f ∷ es) rest end now_then w.2 there (forced_stops (before ++ e ∷ []) now_then e.hand e.what there) one.1 same.1,
            )
      ]

  -- ---- success

  module _ (met : is_met i.domain last first.goal ≡ true) (goal : last.goal ≡ first.goal) where
    abbrev Unharmed : List Entry → Type 0
    Unharmed es = (j : ℕ) → is_harmed (state j es) ≡ false

    -- a settled run has reached its goal
    reaches : (es : List Entry) (now : ℕ → Stage) → At es now → Unharmed es → is_settled i es ≡ true → verdict i es ≡ Some outcome.Success
    reaches es now g un s =
        let ends : Bool = list_all (λ act. is_done (state act es)) (places es) in
        let free : Bool = list_all (λ p. not (is_engaged p.name es)) (performers i) in
        let w = (and_parts free (any_harmed es || (ends || is_blocked i es)) (and_parts (list_all (λ act. not (is_active (state act es))) (places es)) (free && (any_harmed es || (ends || is_blocked i es))) s).1).1 in
        let none : any_harmed es ≡ false = none_any (λ act. is_harmed (state act es)) un (places es) in
        let done : ends ≡ true = elim (or_cases ends (is_blocked i es) (sym (ap (λ b. b || (ends || is_blocked i es)) none) ∙ w)) [ inl d ↦ d | inr b ↦ absurd (not_blocked es now g b) ] in
        let all : (j : ℕ) → j < length (grounds i.domain acts) → now j ≡ ended =
        λ j l. is_through (state j es) (now j) (g.follows.stage j)
        (all_in (λ act. is_done (state act es)) 0 (length (plan es)) j done (omega arith) (let e = ap length g.follows.of_plan in omega (arith, l, e, each))) in
        let told = (going i acts first last good each es now g).come all in
        let so : is_met i.domain (know i es) (know i es).goal ≡ true =
        ap (λ c. is_met i.domain (know i es) c) (told.goal ∙ goal) ∙ met_same i.domain (know i es) last first.goal told ∙ met in
        verdict_of i es (kind es) g.by_goal ∙ ap (λ b. verdict_by b (is_none (know i es).goal) (nat_le i.replans (replans es)) (is_blocked i es)) so

    not_given : (es : List Entry) (now : ℕ → Stage) (e : Event) → At es now → Unharmed es → row_allows i es e ≡ true → is_given_up e ≡ false
    not_given es now (event.Replan new) g un f =
        let w = and_parts (is_settled i es) (is_none (verdict i es) && is_plan i.domain (know i es) i.budget new) f in
        let u = (and_parts (is_none (verdict i es)) (is_plan i.domain (know i es) i.budget new) w.1).0 in
        absurd (true≢false (sym u ∙ ap is_none (reaches es now g un w.0)))
    not_given es now (event.Over how) g un f =
        let w = and_parts (is_settled i es) (is_outcome how (ending i es (verdict i es))) f in
        let is : how ≡ outcome.Success = given how outcome.Success (sym (ap (λ v. is_outcome how (ending i es v)) (reaches es now g un w.0)) ∙ w.1) in
        ap (λ o. is_given_up (event.Over o)) is
    not_given es now e g un f = refl

    kept_well : (b : Bool) (a was : ActState) → is_harmed a ≡ false → is_harmed was ≡ false → is_harmed (unwrap_or (only_if b a) was) ≡ false
    kept_well true a was h g = h
    kept_well false a was h g = g

    unharmed_next : (es : List Entry) (e : Event) → Unharmed es → row_allows i es e ≡ true → is_fail e ≡ false → (j : ℕ) → is_harmed (unwrap_or (says_state j e) (state j es)) ≡ false
    unharmed_next es (event.Run for new) un f calm j = refl
    unharmed_next es (event.Replan new) un f calm j = refl
    unharmed_next es (event.Start act) un f calm j = kept_well (j == act) Active (state j es) refl (un j)
    unharmed_next es (event.End act) un f calm j = kept_well (j == act) Done (state j es) refl (un j)
    unharmed_next es (event.Fail act why) un f calm j = absurd (true≢false calm)
    unharmed_next es (event.Cancel act why) un f calm j = absurd (true≢false (sym f))
    unharmed_next es e un f calm j = un j

    walk_well : (before due es rest end : List Entry) (now : ℕ → Stage) → Leads i before due (es ++ rest) end → At before now → due ≡ [] → Unharmed before
        → IsOfOnePlan es → NoEditCounts i before es → AllByRecursion (λ f. is_fail f.what ≡ false) es → AllByRecursion (λ f. is_given_up f.what ≡ false) es
    walk_well before due [] rest end now l g none un one same calm = tt
    walk_well before due (e ∷ []) rest end now l g none un one same calm =
        elim (head_of i before due (e ∷ rest) end l) [
          | inl w ↦ absurd (let c = sym none ∙ w.1 in cc)
          | inr w ↦ (not_given before now e.what g un (fits-legal i before e.what w.1), tt)
        ]
    walk_well before due (e ∷ f ∷ es) rest end now l g none un one same calm =
        elim (head_of i before due (e ∷ f ∷ (es ++ rest)) end l) [
          | inl w ↦ absurd (let c = sym none ∙ w.1 in cc)
          | inr w ↦
              let now_then = after now e.what in
              let there = goes_on before now e g w.1 one.0 same.0 in
              let empty : forced i before e ≡ [] = forced_so (before ++ e ∷ []) now_then e.hand e.what there ∙ ap (λ b. if b then map (cancels e.hand cancel.Stop) (unbroken i (before ++ e ∷ [])) else []) calm.0 in
              let well : Unharmed (before ++ e ∷ []) = λ j.
              ap is_harmed (read-push (λ s f. unwrap_or (says_state j f) s) Waiting before e) ∙ unharmed_next before e.what un (fits-legal i before e.what w.1) calm.0 j in (
                not_given before now e.what g un (fits-legal i before e.what w.1),
                walk_well (before ++ e ∷ []) (forced i before e) (f ∷ es) rest end now_then w.2 there empty well one.1 same.1 calm.1,
              )
        ]

-- ---- where the plan begins

-- the acts that an event makes the plan
abbrev Opens : Input → List Entry → Event → Type 0
Opens i es e =
    (acts : List Act) × (g : GoodOne i.domain (know i es) acts)
    × GoesAfter i acts (know i es) g.last g.good g.each es e all_waiting × ((j : ℕ) → unwrap_or (says_state j e) (state j es) ≡ Waiting)

opened : (i : Input) (es : List Entry) (e : Event) → is_legal i es e ≡ true → makes_good_plan e ≡ true → Opens i es e
opened i es (event.Run run.Goal new) h m = run_opens (next_line i es) (fits-legal i es (event.Run run.Goal new) h)
  where
    run_opens : (line : Option Line) → opens_with i es run.Goal new line ≡ true → Opens i es (event.Run run.Goal new)
    run_opens (Some (Good command.Run)) f =
        let g = good_of i.domain (know i es) new (and_parts (is_ok (judged i.domain (know i es) new)) _ f).0 in
        (new, g, record { come = come_opened; follows = record { stage = λ j. refl; own = λ j r. absurd (cc); of_plan = refl; is_open = refl }; by_goal = refl }, λ j. refl)
    run_opens line f = absurd (cc)
opened i es (event.Run run.Plan new) h m = run_opens (next_line i es) (fits-legal i es (event.Run run.Plan new) h)
  where
    run_opens : (line : Option Line) → opens_with i es run.Plan new line ≡ true → Opens i es (event.Run run.Plan new)
    run_opens (Some (Good (command.RunPlan (Ok steps)))) f =
        let g = good_of i.domain (know i es) new (and_parts _ (is_ok (judged i.domain (know i es) new)) f).1 in
        (new, g, record { come = come_opened; follows = record { stage = λ j. refl; own = λ j r. absurd (cc); of_plan = refl; is_open = refl }; by_goal = refl }, λ j. refl)
    run_opens line f = absurd (cc)
opened i es (event.Replan new) h m =
    let f = fits-legal i es (event.Replan new) h in
    let w = (and_parts (is_settled i es) (is_none (verdict i es) && is_plan i.domain (know i es) i.budget new) f).1 in
    let u = and_parts (is_none (verdict i es)) (is_plan i.domain (know i es) i.budget new) w in
    let g = good_of i.domain (know i es) new (and_parts (is_ok (judged i.domain (know i es) new)) _ u.1).0 in (
      new,
      g,
      record {
        come = come_opened;
        follows = record {
          stage = λ j. refl;
          own = λ j r. absurd (cc);
          of_plan = refl;
          is_open = not_not (is_running es) (and_parts (same_flag false (not (is_running es))) (row_allows i es (event.Replan new)) h).0;
        };
        by_goal = by_verdict (kind es) u.0;
      },
      λ j. refl,
    )
  where
    by_verdict : (for : Option RunKind) → is_none (if is_reached i es for then Some outcome.Success else unreached i es for) ≡ true → is_for_act for ≡ false
    by_verdict None e = refl
    by_verdict (Some run.Goal) e = refl
    by_verdict (Some run.Plan) e = refl
    by_verdict (Some run.Action) e = absurd (one (is_done (state 0 es)) e)
      where
        one : (b : Bool) → is_none (if b then Some outcome.Success else Some (if any_harmed es then outcome.Act else outcome.Blocked)) ≡ true → ⊥
        one true e = absurd (cc)
        one false e = absurd (cc)
opened i es e h m = absurd (true≢false (sym m))

-- an event that makes a plan is no cancel, and no failure
plan_is_no_cancel : (e : Event) → makes_good_plan e ≡ true → (is_cancel e ≡ true → ⊥) × (is_fail e ≡ false)
plan_is_no_cancel (event.Run for acts) h = (λ c. true≢false (sym c), refl)
plan_is_no_cancel (event.Replan acts) h = (λ c. true≢false (sym c), refl)
plan_is_no_cancel e h = absurd (true≢false (sym h))

-- entries of a history that follow one that makes a good plan, where no edit counts, tell that the plan goes well
pub in_the_journal : (i : Input) (before es rest : List Entry) (e : Entry) → IsHistory i (before ++ e ∷ (es ++ rest)) → makes_good_plan e.what ≡ true
    → IsOfOnePlan es → NoEditCounts i (before ++ e ∷ []) es → NoneIs is_own_fault es × (NoneIs is_fail es → NoneIs is_given_up es)
in_the_journal i before es rest e history made one same =
    let own = plan_is_no_cancel e.what made in
    let w = from_history i before (es ++ rest) e history own.0 in
    let o = opened i before e.what w.0 made in
    let g : GoodOne i.domain (know i before) o.0 = o.1 in
    let after_it : List Entry = before ++ e ∷ [] in
    let there = goes-push i o.0 (know i before) g.last g.good g.each before e all_waiting o.2 in
    let well : (j : ℕ) → is_harmed (state j after_it) ≡ false = λ j.
    ap is_harmed (read-push (λ s f. unwrap_or (says_state j f) s) Waiting before e ∙ o.3 j) in
    let empty : forced i before e ≡ [] =
    forced_so i o.0 (know i before) g.last g.good g.each after_it all_waiting e.hand e.what there
    ∙ ap (λ b. if b then map (cancels e.hand cancel.Stop) (unbroken i after_it) else []) own.1 in (
      walk i o.0 (know i before) g.last g.good g.each after_it (forced i before e) es rest [] all_waiting w.1 there
          (forced_stops i o.0 (know i before) g.last g.good g.each after_it all_waiting e.hand e.what there) one same,
      λ calm. walk_well i o.0 (know i before) g.last g.good g.each g.met g.goal after_it (forced i before e) es rest [] all_waiting w.1 there empty well one same calm,
    )

pub journals_go_well : JournalsGoWell
journals_go_well i all history = record {
  each = λ before es rest e is made one same.
      let w = in_the_journal i before es rest e (subst (IsHistory i) is history) made one same in
      record { no_fault = w.0; success = w.1 };
}
