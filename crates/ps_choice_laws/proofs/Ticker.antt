-- Each legal event of the ticker stands in its list, or rests on the solver's answer.
use Rattle.std.proofs.Common.{◌≡◌, ℕ, nat_lt, ◌==◌, ◌&&◌, Bool, true, false, not, is_none, List, [], ◌∷◌, ◌++◌, filter, map, length, refl, arith, ap, sym, ◌∙◌, subst, inl, inr, ◌⊎◌}
use Rattle.std.specs.Option.{option_map_or, option_to_list}
use Rattle.std.proofs.lemmas.Bool.{and_from, eqb-true, ltb-true, and_parts}
use Rattle.ps_world.specs.Names.{same_name}
use Rattle.ps_world.specs.declared.names.Name.{Name}
use Rattle.ps_machine.specs.declared.inputs.Input.{Input}
use Rattle.ps_machine.specs.declared.journal.FailWhy.{FailWhy}
use Rattle.ps_machine.specs.declared.journal.FailWhy.TheVariants as fail
use Rattle.ps_machine.specs.declared.journal.Outcome.{Outcome}
use Rattle.ps_machine.specs.declared.journal.Event.{Event}
use Rattle.ps_machine.specs.declared.journal.Event.TheVariants as event
use Rattle.ps_machine.specs.declared.journal.Entry.{Entry}
use Rattle.ps_rules.specs.Runs.{is_running, plan, state}
use Rattle.ps_rules.specs.Auctions.{act_of, first_offer, has_offered, is_open, offers, request_of, requests}
use Rattle.ps_rules.specs.Lines.{answers_line}
use Rattle.ps_rules.specs.Settled.{is_settled, places, verdict}
use Rattle.ps_rules.specs.Legal.{ending, is_act_active, is_legal, is_outcome, is_passed, is_place, was_busy}
use Rattle.ps_rules.specs.Choices.{all_requests, confirms, ends, leaves, open_requests, overs, puts_up, rejects, starts, wants_plan}
use Rattle.ps_rules.specs.History.{IsHistory}
use Rattle.ps_rules.proofs.Going.{placed}
use Rattle.ps_rules.proofs.Kept.{confirmed_by, fits-legal}
use Rattle.ps_rules.proofs.SameThings.{same_outcome-decides}
use Rattle.ps_rules.proofs.Speaking.{legal_events_speak}
use Rattle.ps_rules.proofs.Between.{active-so}
use Rattle.ps_progress_laws.proofs.Lists.{find_none, In, in_flat, in_left, in_map, in_range, in_right}
use Rattle.ps_progress_laws.proofs.Offers.{numbered}
use Rattle.ps_progress_laws.proofs.Picking.{by_test, clash}
use Rattle.ps_progress_laws.proofs.Requests.{asked, offered}
use Rattle.ps_progress_laws.proofs.Quiet.{by_option}
use Rattle.ps_choice_laws.specs.Whose.{is_ticker_event}
use Rattle.ps_choice_laws.specs.Choosing.{IsTickersChoice, ticker_choices, TickerLeavesNothing, TickerListsAll}
use Rattle.ps_choice_laws.proofs.Stood.{in_of, live, requested, stands}

in_filter : (test : ℕ → Bool) (r : ℕ) (xs : List ℕ) → In r xs → test r ≡ true → In r (filter test xs)
in_filter test r [] h t = absurd h
in_filter test r (x ∷ xs) (inl e) t = rw (sym (ap test e) ∙ t) (inl e)
in_filter test r (x ∷ xs) (inr h) t =
    by_test (test x) (λ e. rw e (inr (in_filter test r xs h t))) (λ e. rw e (in_filter test r xs h t))

module _ (i : Input) (es : List Entry) (h : IsHistory i es) where
  -- the lists behind the first ones
  abbrev after_leaves : List Event
  after_leaves = ends es ++ (puts_up es ++ (starts es ++ overs i es))

  abbrev after_confirms : List Event
  after_confirms = leaves es ++ after_leaves

  abbrev after_rejects : List Event
  after_rejects = confirms es ++ after_confirms

  abbrev Among : Event → Type 0
  Among e = In e (ticker_choices i es)

  among_rejects : (e : Event) → In e (rejects es) → Among e
  among_rejects e m = in_left e (rejects es) after_rejects m

  among_confirms : (e : Event) → In e (confirms es) → Among e
  among_confirms e m = in_right e (rejects es) after_rejects (in_left e (confirms es) after_confirms m)

  past_confirms : (e : Event) → In e after_confirms → Among e
  past_confirms e m = in_right e (rejects es) after_rejects (in_right e (confirms es) after_confirms m)

  among_leaves : (e : Event) → In e (leaves es) → Among e
  among_leaves e m = past_confirms e (in_left e (leaves es) after_leaves m)

  past_leaves : (e : Event) → In e after_leaves → Among e
  past_leaves e m = past_confirms e (in_right e (leaves es) after_leaves m)

  among_ends : (e : Event) → In e (ends es) → Among e
  among_ends e m = past_leaves e (in_left e (ends es) (puts_up es ++ (starts es ++ overs i es)) m)

  past_ends : (e : Event) → In e (puts_up es ++ (starts es ++ overs i es)) → Among e
  past_ends e m = past_leaves e (in_right e (ends es) (puts_up es ++ (starts es ++ overs i es)) m)

  among_starts : (e : Event) → In e (starts es ++ overs i es) → Among e
  among_starts e m = past_ends e (in_right e (puts_up es) (starts es ++ overs i es) m)

  -- ---- requests and places

  below : (r : ℕ) → nat_lt r (requests es) ≡ true → In r (all_requests es)
  below r t = requested es r (ltb-true r (requests es) t)

  place : (act : ℕ) → is_place es act ≡ true → In act (places es)
  place act t = let l = ltb-true act (length (plan es)) t in in_range act 0 (length (plan es)) (omega arith) (omega (arith, l))

  active_place : (act : ℕ) → is_act_active es act ≡ true → In act (places es)
  active_place act a = place act (placed i es h act (active-so (state act es) a))

  -- ---- kinds of events

  rejects_list : (r : ℕ) (p : Name) → is_legal i es (event.Reject r p) ≡ true → Among (event.Reject r p)
  rejects_list r p legal =
      let o = (and_parts (has_offered r p es) _ (fits-legal i es (event.Reject r p) legal)).0 in
      among_rejects (event.Reject r p)
      (in_flat (λ r. map (event.Reject r) (offers r es)) r (event.Reject r p) (all_requests es) (below r (legal_events_speak i es (event.Reject r p) h legal))
      (in_map (event.Reject r) p (offers r es) (offered i es h r p o)))

  confirms_list : (r : ℕ) (p : Name) → is_legal i es (event.Confirm r p) ≡ true → Among (event.Confirm r p)
  confirms_list r p legal =
      let f = (and_parts (is_open r es) (option_map_or (same_name p) (first_offer (offers r es)) false) (fits-legal i es (event.Confirm r p) legal)).1 in
      let own : In (event.Confirm r p) (map (event.Confirm r) (option_to_list (first_offer (offers r es)))) =
      subst (λ w. In (event.Confirm r p) (map (event.Confirm r) (option_to_list w))) (sym (confirmed_by p (first_offer (offers r es)) f)) (inl refl) in
      among_confirms (event.Confirm r p)
      (in_flat (λ r. map (event.Confirm r) (option_to_list (first_offer (offers r es)))) r (event.Confirm r p) (all_requests es)
      (below r (legal_events_speak i es (event.Confirm r p) h legal)) own)

  abbrev left_of : ℕ → List Event
  left_of r = event.Unserved r ∷ map (λ act. event.Fail act fail.NoPerformer) (option_to_list (act_of r es))

  passed_open : (r : ℕ) → is_passed i r es ≡ true → is_open r es ≡ true
  passed_open r t = (and_parts (is_open r es) _ t).0

  unserved_list : (r : ℕ) → is_legal i es (event.Unserved r) ≡ true → Among (event.Unserved r)
  unserved_list r legal =
      let p = (and_parts (is_passed i r es) (was_busy i r es) (fits-legal i es (event.Unserved r) legal)).0 in
      among_leaves (event.Unserved r)
      (in_flat left_of r (event.Unserved r) (open_requests es)
      (in_filter (λ r. is_open r es) r (all_requests es) (below r (legal_events_speak i es (event.Unserved r) h legal)) (passed_open r p)) (inl refl))

  noperformer_list : (act : ℕ) → is_legal i es (event.Fail act fail.NoPerformer) ≡ true → Among (event.Fail act fail.NoPerformer)
  noperformer_list act legal =
      let e : Event = event.Fail act fail.NoPerformer in
      let passed : option_map_or (λ r. is_passed i r es && not (was_busy i r es)) (request_of act es) false ≡ true =
      (and_parts (is_act_active es act) _ (fits-legal i es e legal)).1 in
      by_option (request_of act es)
      (λ q. clash false (sym (ap (λ o. option_map_or (λ r. is_passed i r es && not (was_busy i r es)) o false) q) ∙ passed) refl)
      (λ r q.
      let p = (and_parts (is_passed i r es) (not (was_busy i r es)) (sym (ap (λ o. option_map_or (λ r. is_passed i r es && not (was_busy i r es)) o false) q) ∙ passed)).0 in
      let a = asked i es h r act q in
      let own : In e (map (λ act. event.Fail act fail.NoPerformer) (option_to_list (act_of r es))) =
      subst (λ o. In e (map (λ act. event.Fail act fail.NoPerformer) (option_to_list o))) (sym a) (inl refl) in
      among_leaves e
      (in_flat left_of r e (open_requests es) (in_filter (λ r. is_open r es) r (all_requests es) (requested es r (numbered i es h r act a)) (passed_open r p)) (inr own)))

  abbrev end_of : ℕ → List Event
  end_of act = event.End act ∷ event.Fail act fail.Script ∷ event.Fail act fail.AtEnd ∷ event.Fail act fail.Effect ∷ []

  ends_list : (e : Event) (act : ℕ) → is_act_active es act ≡ true → In e (end_of act) → Among e
  ends_list e act a m = among_ends e (in_flat end_of act e (places es) (active_place act a) m)

  request_list : (r act : ℕ) → is_legal i es (event.Request r act) ≡ true → Among (event.Request r act)
  request_list r act legal =
      let f = and_parts (r == requests es) _ (fits-legal i es (event.Request r act) legal) in
      let a = (and_parts (is_act_active es act) _ f.1).0 in
      past_ends (event.Request r act)
      (in_left (event.Request r act) (puts_up es) (starts es ++ overs i es)
      (subst (λ n. In (event.Request n act) (puts_up es)) (sym (eqb-true r (requests es) f.0))
      (in_map (event.Request (requests es)) act (places es) (active_place act a))))

  start_list : (act : ℕ) → is_legal i es (event.Start act) ≡ true → Among (event.Start act)
  start_list act legal =
      let p = (and_parts (is_place es act) _ (fits-legal i es (event.Start act) legal)).0 in
      among_starts (event.Start act) (in_left (event.Start act) (starts es) (overs i es) (in_map event.Start act (places es) (place act p)))

  -- ---- the solver's answer

  asks : (e : Event) → answers_line e ≡ false → is_legal i es e ≡ true → is_settled i es ≡ true → is_none (verdict i es) ≡ true → wants_plan i es ≡ true
  asks e own legal s n = and_from (is_running es) _ (live i es e own legal) (and_from (is_settled i es) (is_none (verdict i es)) s n)

  over_list : (how : Outcome) → is_legal i es (event.Over how) ≡ true → In (event.Over how) (ticker_choices i es) ⊎ (wants_plan i es ≡ true)
  over_list how legal =
      let e : Event = event.Over how in
      let parts = and_parts (is_settled i es) (is_outcome how (ending i es (verdict i es))) (fits-legal i es e legal) in
      by_option (verdict i es)
      (λ v. inr (asks e refl legal parts.0 (ap is_none v)))
      (λ due v.
      let same : how ≡ due = (same_outcome-decides how due).0 (sym (ap (λ w. is_outcome how (ending i es w)) v) ∙ parts.1) in
      let own : In e (overs i es) = subst (λ w. In e (map event.Over (option_to_list w))) (sym v) (inl (ap event.Over same)) in
      inl (among_starts e (in_right e (starts es) (overs i es) own)))

  -- ---- all of them

  fail_active : (act : ℕ) (why : FailWhy) → is_legal i es (event.Fail act why) ≡ true → is_act_active es act ≡ true
  fail_active act fail.NoPerformer legal = (and_parts (is_act_active es act) _ (fits-legal i es (event.Fail act fail.NoPerformer) legal)).0
  fail_active act fail.Script legal = (and_parts (is_act_active es act) _ (fits-legal i es (event.Fail act fail.Script) legal)).0
  fail_active act fail.AtEnd legal = (and_parts (is_act_active es act) _ (fits-legal i es (event.Fail act fail.AtEnd) legal)).0
  fail_active act fail.Effect legal = (and_parts (is_act_active es act) _ (fits-legal i es (event.Fail act fail.Effect) legal)).0

  fail_list : (act : ℕ) (why : FailWhy) → is_legal i es (event.Fail act why) ≡ true → Among (event.Fail act why)
  fail_list act fail.NoPerformer legal = noperformer_list act legal
  fail_list act fail.Script legal = ends_list (event.Fail act fail.Script) act (fail_active act fail.Script legal) (inr (inl refl))
  fail_list act fail.AtEnd legal = ends_list (event.Fail act fail.AtEnd) act (fail_active act fail.AtEnd legal) (inr (inr (inl refl)))
  fail_list act fail.Effect legal = ends_list (event.Fail act fail.Effect) act (fail_active act fail.Effect legal) (inr (inr (inr (inl refl))))

  in_list : (e : Event) → Among e → IsTickersChoice i es e
  in_list e m = inl (stands e (ticker_choices i es) m)

  pub chosen : (e : Event) → is_ticker_event e ≡ true → is_legal i es e ≡ true → IsTickersChoice i es e
  chosen (event.Start act) own legal = in_list (event.Start act) (start_list act legal)
  chosen (event.Request r act) own legal = in_list (event.Request r act) (request_list r act legal)
  chosen (event.Confirm r p) own legal = in_list (event.Confirm r p) (confirms_list r p legal)
  chosen (event.Reject r p) own legal = in_list (event.Reject r p) (rejects_list r p legal)
  chosen (event.Unserved r) own legal = in_list (event.Unserved r) (unserved_list r legal)
  chosen (event.End act) own legal =
      in_list (event.End act) (ends_list (event.End act) act (and_parts (is_act_active es act) _ (fits-legal i es (event.End act) legal)).0 (inl refl))
  chosen (event.Fail act why) own legal = in_list (event.Fail act why) (fail_list act why legal)
  chosen (event.Replan acts) own legal =
      let w = and_parts (is_settled i es) _ (fits-legal i es (event.Replan acts) legal) in
      inr (asks (event.Replan acts) refl legal w.0 (and_parts (is_none (verdict i es)) _ w.1).0, refl)
  chosen (event.Over how) own legal =
      elim (over_list how legal) [ inl m ↦ in_list (event.Over how) m | inr w ↦ inr (w, refl) ]
  chosen e own legal = clash (is_ticker_event e) own refl

pub ticker_lists_all : TickerListsAll
ticker_lists_all i es h = record { first = refl; each = chosen i es h }

pub ticker_leaves_nothing : TickerLeavesNothing
ticker_leaves_nothing i es h idle unasked e own =
    by_test (is_legal i es e)
    (λ legal. elim (chosen i es h e own legal) [
      | inl c ↦ find_none (is_legal i es) (ticker_choices i es) idle e (in_of e (ticker_choices i es) c)
      | inr w ↦ clash (wants_plan i es) w.0 unasked
    ])
    (λ f. f)
