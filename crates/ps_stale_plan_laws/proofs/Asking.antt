-- What is legal while the solver is asked, and what it leaves.
use Rattle.std.proofs.Common.{◌≡◌, ℕ, ◌==◌, ◌&&◌, ◌||◌, Bool, true, false, not, Option, Some, None, is_none, is_some, is_ok, option_and_then, List, [], ◌∷◌, ◌++◌, filter, length, map, if◌then◌else◌, IsTrue, refl, arith, ap, sym, ◌∙◌, subst}
use Rattle.std.specs.List.{list_all, list_any}
use Rattle.std.specs.Option.{option_map_or}
use Rattle.std.proofs.lemmas.Bool.{and_from, ltb-true, not-true, or_left, or_right, true≢false, and_parts}
use Rattle.ps_world.specs.Names.{same_name}
use Rattle.ps_world.specs.Knowledge.{edited}
use Rattle.ps_world.specs.declared.names.Name.{Name}
use Rattle.ps_action.specs.declared.states.ActState.{ActState}
use Rattle.ps_action.specs.declared.states.ActState.TheVariants.{Waiting}
use Rattle.ps_action.proofs.Facts.{same_name-is}
use Rattle.ps_machine.specs.declared.inputs.Input.{Input}
use Rattle.ps_machine.specs.declared.members.Unit.{Unit as Task}
use Rattle.ps_machine.specs.declared.members.Performer.{Performer}
use Rattle.ps_machine.specs.declared.members.Observer.{Observer}
use Rattle.ps_machine.specs.declared.journal.By.TheVariants as by
use Rattle.ps_machine.specs.declared.journal.FailWhy.TheVariants as fail
use Rattle.ps_machine.specs.declared.journal.CancelWhy.TheVariants as cancel
use Rattle.ps_machine.specs.declared.journal.Event.{Event}
use Rattle.ps_machine.specs.declared.journal.Event.TheVariants as event
use Rattle.ps_machine.specs.declared.journal.Entry.{Entry}
use Rattle.ps_rules.specs.Runs.{is_active, is_done, is_running, is_waiting, opens, plan, state}
use Rattle.ps_rules.specs.Auctions.{has_begun, has_offered, is_engaged, is_for_active, is_for_cancelled, is_open, is_rejected, is_through, is_working}
use Rattle.ps_rules.specs.Known.{know}
use Rattle.ps_rules.specs.Lines.{answers_line, edit_refusal}
use Rattle.ps_rules.specs.Members.{is_observed, next_seen, next_unit, observed, observer_of, observers, performer_of, performers, seen_by, unit_of}
use Rattle.ps_rules.specs.Settled.{any_harmed, is_blocked, is_ready, is_settled, is_startable, may_go_on, places, verdict}
use Rattle.ps_rules.specs.Legal.{has_hand, is_act_active, is_cause, is_confirmed, is_edit, is_feedback, is_finish, is_legal, is_passed, is_place, is_work, row_allows, same_flag, was_busy}
use Rattle.ps_rules.specs.History.{any_of, broken, cancels, forced, forced_after, is_fail, IsHistory, unbroken}
use Rattle.ps_rules.specs.History.IsHistory.{block}
use Rattle.ps_rules.specs.Choices.{wants_plan}
use Rattle.ps_rules.proofs.Going.{placed}
use Rattle.ps_rules.proofs.Kept.{fits-legal}
use Rattle.ps_rules.proofs.Between.{active-so}
use Rattle.ps_progress_laws.specs.Engaged.{is_engaged_on}
use Rattle.ps_progress_laws.proofs.Engaged.{engaged_member, engaged_on_one}
use Rattle.ps_progress_laws.proofs.Lists.{all_in, found_in, In, in_range}
use Rattle.ps_progress_laws.proofs.Offers.{offer_says, opens_for}
use Rattle.ps_progress_laws.proofs.Picking.{clash, found}
use Rattle.ps_stale_plan_laws.specs.Asked.{ends_plan, may_come}
use Rattle.ps_stale_plan_laws.proofs.Lists.{none_kept}
use Rattle.ps_stale_plan_laws.proofs.Standing.{blocked_same, observed_same, reads_same, ReadsTheSame, settled_still, unended_still}

-- the solver is asked: a run is open and settled, and doesn't end without the solver
pub record IsAsked (i : Input) (es : List Entry) : Type 0 where
  pub running : is_running es ≡ true
  pub settled : is_settled i es ≡ true
  pub unended : is_none (verdict i es) ≡ true

pub asked_of : (i : Input) (es : List Entry) → wants_plan i es ≡ true → IsAsked i es
asked_of i es h =
    let w = and_parts (is_running es) (is_settled i es && is_none (verdict i es)) h in
    let u = and_parts (is_settled i es) (is_none (verdict i es)) w.1 in
    record { running = w.0; settled = u.0; unended = u.1 }

pub of_asked : (i : Input) (es : List Entry) → IsAsked i es → wants_plan i es ≡ true
of_asked i es a = and_from (is_running es) (is_settled i es && is_none (verdict i es)) a.running (and_from (is_settled i es) (is_none (verdict i es)) a.settled a.unended)

-- no act of the plan is active where a run is settled
pub all_quiet : (i : Input) (es : List Entry) → is_settled i es ≡ true → list_all (λ act. not (is_active (state act es))) (places es) ≡ true
all_quiet i es s = (and_parts (list_all (λ act. not (is_active (state act es))) (places es)) _ s).0

module _ (i : Input) (es : List Entry) (history : IsHistory i es) (asked : IsAsked i es) where
  -- ---- nothing goes on

  no_active : (act : ℕ) → is_act_active es act ≡ true → ⊥
  no_active act a =
      let l = ltb-true act (length (plan es)) (placed i es history act (active-so (state act es) a)) in
      let fails = all_in (λ act. not (is_active (state act es))) (places es) (all_quiet i es asked.settled) act (in_range act 0 (length (plan es)) (omega arith) (omega (arith, l))) in
      clash (is_act_active es act) a (not-true (is_act_active es act) fails)

  no_open : (r : ℕ) → is_open r es ≡ true → ⊥
  no_open r o = let w = opens_for r es o in no_active w.0 (ap is_active w.2)

  no_for_active : (r : ℕ) → is_for_active r es ≡ true → ⊥
  no_for_active r f = by_act _ f
    where
      by_act : (o : Option ℕ) → option_map_or (λ act. is_active (state act es)) o false ≡ true → ⊥
      by_act None f = absurd (cc)
      by_act (Some act) f = no_active act f

  -- nobody is engaged
  no_engaged : (p : Name) → is_engaged p es ≡ true → ⊥
  no_engaged p e = by_found (performer_of i p) refl (engaged_member i es history p e)
    where
      by_found : (o : Option Performer) → performer_of i p ≡ o → is_some o ≡ true → ⊥
      by_found None f m = absurd (cc)
      by_found (Some x) f m =
          let free : Bool = list_all (λ performer. not (is_engaged performer.name es)) (performers i) in
          let all = (and_parts free _ (and_parts (list_all (λ act. not (is_active (state act es))) (places es)) _ asked.settled).1).0 in
          let w = found (λ performer. same_name p performer.name) (λ performer. not (is_engaged performer.name es)) (performers i) x f in
          clash (is_engaged p es) e (ap (λ n. is_engaged n es) (same_name-is p x.name w.0) ∙ not-true (is_engaged x.name es) (w.1 all))

  no_engaged_on : (r : ℕ) (p : Name) → is_engaged_on r p es ≡ true → ⊥
  no_engaged_on r p e = no_engaged p ((engaged_on_one i es history p).on_some.1 (r, e))

  -- nobody has a next unit
  no_unit : (test : Option Task → Bool) → test None ≡ false → (r : ℕ) (p : Name) → test (next_unit i r p es) ≡ true → ⊥
  no_unit test none r p h = by_active (is_working r p es) (is_for_active r es) refl h
    where
      by_active : (b c : Bool) → is_for_active r es ≡ c → test (if b && c then option_and_then (λ performer. unit_of performer r p es) (performer_of i p) else None) ≡ true → ⊥
      by_active b true e h = no_for_active r e
      by_active true false e h = true≢false (sym h ∙ none)
      by_active false false e h = true≢false (sym h ∙ none)

  -- no act may start
  no_start : (act : ℕ) → row_allows i es (event.Start act) ≡ true → ⊥
  no_start act f =
      let u = and_parts (is_place es act) (is_ready i es act && (is_startable i es act && not (any_harmed es))) f in
      let v = and_parts (is_ready i es act) (is_startable i es act && not (any_harmed es)) u.1 in
      let w = and_parts (is_startable i es act) (not (any_harmed es)) v.1 in
      let l = ltb-true act (length (plan es)) u.0 in
      let here : In act (places es) = in_range act 0 (length (plan es)) (omega arith) (omega (arith, l)) in
      let rest : Bool = any_harmed es || (list_all (λ act. is_done (state act es)) (places es) || is_blocked i es) in
      let free : Bool = list_all (λ p. not (is_engaged p.name es)) (performers i) in
      let so = (and_parts free rest (and_parts (list_all (λ act. not (is_active (state act es))) (places es)) (free && rest) asked.settled).1).1 in
      by_way (any_harmed es) (list_all (λ act. is_done (state act es)) (places es)) (is_blocked i es) so (not-true (any_harmed es) w.1)
      (λ done. waits_not (state act es) (and_parts (is_waiting (state act es)) _ v.0).0 (all_in (λ act. is_done (state act es)) (places es) done act here))
      (λ blocked.
      let some : Bool = list_any (is_ready i es) (places es) in
      let none : Bool = list_all (λ act. not (is_ready i es act) || not (is_startable i es act)) (places es) in
      let all = (and_parts none _ (and_parts some _ (and_parts (not (any_harmed es)) _ blocked).1).1).0 in
      neither (is_ready i es act) (is_startable i es act) v.0 w.0 (all_in (λ act. not (is_ready i es act) || not (is_startable i es act)) (places es) all act here))
    where
      by_way : (a b c : Bool) → (a || (b || c)) ≡ true → a ≡ false → (b ≡ true → ⊥) → (c ≡ true → ⊥) → ⊥
      by_way true b c h n f g = true≢false n
      by_way false true c h n f g = f refl
      by_way false false c h n f g = g h

      waits_not : (s : ActState) → is_waiting s ≡ true → is_done s ≡ true → ⊥
      waits_not Waiting h g = absurd (cc)
      waits_not s h g = absurd (cc)

      neither : (a b : Bool) → a ≡ true → b ≡ true → (not a || not b) ≡ true → ⊥
      neither true true h g n = absurd (cc)
      neither false b h g n = absurd (cc)
      neither true false h g n = absurd (cc)

  -- no event that answers a line is legal
  no_line : (e : Event) → answers_line e ≡ true → is_legal i es e ≡ true → ⊥
  no_line e own l = closed (answers_line e) (is_running es) own asked.running (and_parts (same_flag (answers_line e) (not (is_running es))) (row_allows i es e) l).0
    where
      closed : (own live : Bool) → own ≡ true → live ≡ true → same_flag own (not live) ≡ true → ⊥
      closed false live o r f = absurd (cc)
      closed true false o r f = absurd (cc)
      closed true true o r f = absurd (cc)

  -- ---- what may come

  comes : (e : Event) → is_legal i es e ≡ true → row_allows i es e ≡ true → may_come e ≡ true
  comes (event.Edit whose edit) l f = refl
  comes (event.Refused whose why) l f = refl
  comes (event.Pass r p why) l f = refl
  comes (event.Replan acts) l f = refl
  comes (event.Over how) l f = refl
  comes (event.Ask q) l f = absurd (no_line (event.Ask q) refl l)
  comes (event.Run for acts) l f = absurd (no_line (event.Run for acts) refl l)
  comes event.Quit l f = absurd (no_line event.Quit refl l)
  comes (event.Start act) l f = absurd (no_start act f)
  comes (event.Request r act) l f = absurd (no_active act (and_parts (is_act_active es act) _ (and_parts (_ == _) _ f).1).0)
  comes (event.Offer r p) l f = absurd (no_open r (offer_says i es r p f).opened)
  comes (event.Confirm r p) l f = absurd (no_open r (and_parts (is_open r es) _ f).0)
  comes (event.Reject r p) l f =
      let w = and_parts (has_offered r p es) (not (is_rejected r p es) && _) f in
      let u = and_parts (not (is_rejected r p es)) (not (is_confirmed r p es) && _) w.1 in
      let v = and_parts (not (is_confirmed r p es)) _ u.1 in
      absurd (no_engaged_on r p
      (or_left (has_offered r p es && (not (is_rejected r p es) && not (is_confirmed r p es))) (is_confirmed r p es && not (is_through r p es))
      (and_from (has_offered r p es) (not (is_rejected r p es) && not (is_confirmed r p es)) w.0 (and_from (not (is_rejected r p es)) (not (is_confirmed r p es)) u.0 v.0))))
  comes (event.Begin r p) l f =
      absurd (no_for_active r (and_parts (not (has_begun r p es)) (is_for_active r es) (and_parts (is_confirmed r p es) (not (has_begun r p es) && is_for_active r es) f).1).1)
  comes (event.UnitWork r p) l f = absurd (no_unit is_work refl r p f)
  comes (event.Feedback r p percent text) l f = absurd (no_unit (is_feedback percent text) refl r p f)
  comes (event.Finish r p ok) l f = absurd (no_unit (is_finish ok) refl r p f)
  comes (event.Unserved r) l f = absurd (no_open r (and_parts (is_open r es) _ (and_parts (is_passed i r es) (was_busy i r es) f).0).0)
  comes (event.End act) l f = absurd (no_active act (and_parts (is_act_active es act) _ f).0)
  comes (event.Fail act fail.NoPerformer) l f = absurd (no_active act (and_parts (is_act_active es act) _ f).0)
  comes (event.Fail act fail.Script) l f = absurd (no_active act (and_parts (is_act_active es act) _ f).0)
  comes (event.Fail act fail.AtEnd) l f = absurd (no_active act (and_parts (is_act_active es act) _ f).0)
  comes (event.Fail act fail.Effect) l f = absurd (no_active act (and_parts (is_act_active es act) _ f).0)
  comes (event.Cancel act why) l f = absurd (true≢false (sym f))
  comes (event.Stopped r p) l f =
      let w = and_parts (is_confirmed r p es) (not (is_through r p es) && is_for_cancelled r es) f in
      let u = and_parts (not (is_through r p es)) (is_for_cancelled r es) w.1 in
      absurd (no_engaged_on r p
      (or_right (has_offered r p es && (not (is_rejected r p es) && not (is_confirmed r p es))) (is_confirmed r p es && not (is_through r p es))
      (and_from (is_confirmed r p es) (not (is_through r p es)) w.0 u.0)))

  pub legal_may_come : (e : Event) → is_legal i es e ≡ true → may_come e ≡ true
  legal_may_come e l = comes e l (fits-legal i es e l)

  -- ---- what it leaves

  -- in a blocked run no observer has a next edit
  none_seen : is_blocked i es ≡ true → (o : Name) → next_seen i o es ≡ None
  none_seen b o = by_found (observer_of i o) refl
    where
      none_of : {A : Type 0} (x : Option A) → is_none x ≡ true → x ≡ None
      none_of None e = refl
      none_of (Some a) e = absurd (cc)

      by_found : (x : Option Observer) → observer_of i o ≡ x → option_and_then (λ observer. seen_by i observer es) x ≡ None
      by_found None f = refl
      by_found (Some observer) f =
          let some : Bool = list_any (is_ready i es) (places es) in
          let none : Bool = list_all (λ act. not (is_ready i es act) || not (is_startable i es act)) (places es) in
          let all : list_all (λ o. is_none (seen_by i o es)) (observers i) ≡ true = (and_parts none _ (and_parts some _ (and_parts (not (any_harmed es)) _ b).1).1).1 in
          none_of (seen_by i observer es) (all_in (λ o. is_none (seen_by i o es)) (observers i) all observer (found_in (λ observer. same_name o observer.name) (observers i) observer f).0)

  blocked_still : (e : Entry) → row_allows i es e.what ≡ true → may_come e.what ≡ true → ends_plan e.what ≡ false → ReadsTheSame i es (es ++ e ∷ [])
      → is_blocked i es ≡ true → is_blocked i (es ++ e ∷ []) ≡ true
  blocked_still e f m n same b = by_what e.what refl f m n
    where
      as_before : ((o : Name) → observed o (es ++ e ∷ []) ≡ observed o es) → is_blocked i (es ++ e ∷ []) ≡ true
      as_before h = blocked_same i es (es ++ e ∷ []) same h ∙ b

      by_what : (w : Event) → e.what ≡ w → row_allows i es w ≡ true → may_come w ≡ true → ends_plan w ≡ false → is_blocked i (es ++ e ∷ []) ≡ true
      by_what (event.Edit (by.Observer o) edit) at f m n =
          let next = (and_parts (is_edit edit (next_seen i o es)) (is_ok (edited i.domain (know i es) edit)) f).0 in
          absurd (true≢false (sym next ∙ ap (is_edit edit) (none_seen b o)))
      by_what (event.Refused (by.Observer o) why) at f m n =
          absurd (true≢false (sym f ∙ ap (λ x. is_cause why (option_and_then (λ edit. edit_refusal (edited i.domain (know i es) edit)) x)) (none_seen b o)))
      by_what (event.Replan acts) at f m n = absurd (true≢false n)
      by_what (event.Over how) at f m n = absurd (true≢false n)
      by_what (event.Edit whose edit) at f m n = as_before (λ o. observed_same o es e (ap opens at) (ap (is_observed o) at))
      by_what (event.Refused whose why) at f m n = as_before (λ o. observed_same o es e (ap opens at) (ap (is_observed o) at))
      by_what (event.Pass r p why) at f m n = as_before (λ o. observed_same o es e (ap opens at) (ap (is_observed o) at))
      by_what w at f m n = absurd (true≢false (sym m))

-- where no act is active nothing is forced
nothing_forced : (i : Input) (es : List Entry) (hand : ℕ) (e : Event) → list_all (λ act. not (is_active (state act es))) (places es) ≡ true → is_fail e ≡ false → forced_after i es hand e ≡ []
nothing_forced i es hand e q f =
    let none : (test : ℕ → Bool) → filter (λ act. is_active (state act es) && test act) (places es) ≡ [] =
    λ test. none_kept (λ act. is_active (state act es) && test act) (places es)
    (λ act h. ap (λ b. b && test act) (not-true (is_active (state act es)) (all_in (λ act. not (is_active (state act es))) (places es) q act h))) in
    none_so (broken i es) (none (λ act. not (may_go_on i es act))) f
  where
    none_so : (acts : List ℕ) → acts ≡ [] → is_fail e ≡ false
        → map (cancels hand cancel.OverAll) acts ++ (if is_fail e || any_of acts then map (cancels hand cancel.Stop) (unbroken i es) else []) ≡ []
    none_so [] n f = ap (λ b. if b || false then map (cancels hand cancel.Stop) (unbroken i es) else []) f
    none_so (act ∷ acts) n f = absurd (cc)

-- what comes while the solver is asked is no failure
comes_unfailed : (e : Event) → may_come e ≡ true → is_fail e ≡ false
comes_unfailed (event.Fail act why) m = absurd (true≢false (sym m))
comes_unfailed e m = refl

-- with one more entry, which forces nothing, the entries are a history, and the solver is asked still
pub record AskedStill (i : Input) (es : List Entry) (e : Entry) : Type 0 where
  pub history : IsHistory i (es ++ e ∷ [])
  pub asked : IsAsked i (es ++ e ∷ [])
  pub forces : forced i es e ≡ []

-- what doesn't count leaves it so
pub asked_still : (i : Input) (es : List Entry) (e : Entry) → IsHistory i es → IsAsked i es → IsTrue (is_legal i es e.what) → IsTrue (has_hand e.what e.hand)
    → ends_plan e.what ≡ false → know i (es ++ e ∷ []) ≡ know i es → AskedStill i es e
asked_still i es e history asked legal hand n k =
    let may = legal_may_come i es history asked e.what legal in
    let same = reads_same i es e may n k in
    let settled = settled_still i es (es ++ e ∷ []) same (blocked_still i es history asked e (fits-legal i es e.what legal) may n same) asked.settled in
    let forces = nothing_forced i (es ++ e ∷ []) e.hand e.what (all_quiet i (es ++ e ∷ []) settled) (comes_unfailed e.what may) in
    record {
      history = subst (λ cs. IsHistory i (es ++ e ∷ cs)) forces (block es e history legal hand);
      asked = record { running = same.running ∙ asked.running; settled = settled; unended = unended_still i es (es ++ e ∷ []) same asked.unended };
      forces = forces;
    }
