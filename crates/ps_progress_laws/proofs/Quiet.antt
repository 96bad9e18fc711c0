-- Where nobody has anything to do no run is open, by what histories keep.
use Rattle.std.proofs.Common.{◌≡◌, ℕ, zero, suc, ◌<◌, ◌==◌, ◌&&◌, ◌||◌, Bool, true, false, not, Option, Some, None, is_none, is_some, List, [], ◌∷◌, ◌++◌, find, filter, filter_map, map, length, option_map, option_and_then, if◌then◌else◌, refl, arith, ap, sym, ◌∙◌, subst, inl, inr, ◌⊎◌}
use Rattle.std.specs.List.{list_all, list_any, range_with_len}
use Rattle.std.specs.Option.{option_map_or, option_to_list}
use Rattle.std.proofs.lemmas.Bool.{and_from, lt-ltb, not_from_false, not-false, or_parts, or_right, true≢false, eq-eqb}
use Rattle.ps_world.specs.Names.{same_name}
use Rattle.ps_world.specs.declared.names.Name.{Name}
use Rattle.ps_world.proofs.Optionals.{or_none, map_none}
use Rattle.ps_world.proofs.SameTexts.{name_itself}
use Rattle.ps_action.specs.Arcs.{is_arc}
use Rattle.ps_action.specs.declared.states.ActState.{ActState}
use Rattle.ps_action.specs.declared.states.ActState.TheVariants.{Waiting, Active, Done, Failed, Cancelled}
use Rattle.ps_machine.specs.declared.inputs.Input.{Input}
use Rattle.ps_machine.specs.declared.members.Unit.{Unit as Task}
use Rattle.ps_machine.specs.declared.members.Performer.{Performer}
use Rattle.ps_machine.specs.declared.journal.By.TheVariants as by
use Rattle.ps_machine.specs.declared.journal.Outcome.{Outcome}
use Rattle.ps_machine.specs.declared.journal.PassWhy.{PassWhy}
use Rattle.ps_machine.specs.declared.journal.PassWhy.TheVariants as pass
use Rattle.ps_machine.specs.declared.journal.FailWhy.TheVariants as fail
use Rattle.ps_machine.specs.declared.journal.Event.{Event}
use Rattle.ps_machine.specs.declared.journal.Event.TheVariants as event
use Rattle.ps_machine.specs.declared.journal.Entry.{Entry}
use Rattle.ps_rules.specs.Runs.{is_active, is_cancelled, is_done, is_harmed, is_running, is_waiting, plan, state}
use Rattle.ps_rules.specs.Auctions.{act_of, confirmed, finish_of, first_offer, has_answered, has_begun, has_offered, is_engaged, is_for_active, is_for_cancelled, is_of_run, is_open, is_rejected, is_through, is_unserved, is_working, offers, pass_of, request_of, requests}
use Rattle.ps_rules.specs.Known.{grounds}
use Rattle.ps_rules.specs.Lines.{answers_line}
use Rattle.ps_rules.specs.Sound.{IsSound}
use Rattle.ps_rules.specs.Members.{next_seen, next_unit, observers, performer_of, performers, seen_by, unit_of}
use Rattle.ps_rules.specs.Settled.{places, any_harmed, ends_well, is_blocked, is_ready, is_settled, is_startable, may_end, may_go_on, verdict}
use Rattle.ps_rules.specs.Legal.{ending, is_act_active, is_confirmed, is_finished, is_legal, is_outcome, is_pass, is_passed, is_place, is_wanted, matches_act, may_be_put_up, pass_reason, row_allows, same_flag, same_pass, was_busy}
use Rattle.ps_rules.specs.Choices.{all_requests, answers, beginnings, edit_event, confirms, ends, leaves, observer_turn, open_requests, overs, performed, performer_turn, puts_up, rejects, starts, stops, ticked, unit_event, unit_on, wants_plan, work_of, head_of}
use Rattle.ps_rules.proofs.Choosing.{legal-live}
use Rattle.ps_rules.proofs.SameThings.{same_outcome-decides}
use Rattle.ps_rules.proofs.Between.{active-so}
use Rattle.ps_progress_laws.specs.DeadEnd.{any_observes, any_performs}
use Rattle.ps_progress_laws.proofs.Held.{is_held}
use Rattle.ps_progress_laws.proofs.Lists.{all_or, any_in, find_none, In, in_all, in_any, in_flat, in_left, in_map, in_range, in_right, none_in, range_in}
use Rattle.ps_progress_laws.proofs.Passes.{TakesPart}
use Rattle.ps_progress_laws.proofs.Picking.{by_test, clash}
use Rattle.ps_progress_laws.proofs.SoundMembers.{observer_found}

-- What histories keep of requests, performers and acts.
pub record Keeps (i : Input) (es : List Entry) : Type 0 where
  -- a request of the present plan is numbered, and of the run; an act's request is for it, and is its last one unless it is unserved
  pub numbered : (r act : ℕ) → act_of r es ≡ Some act → r < requests es
  pub of_run : (r act : ℕ) → act_of r es ≡ Some act → is_of_run r es ≡ true
  pub asked : (r act : ℕ) → request_of act es ≡ Some r → act_of r es ≡ Some act
  pub last_one : (r act : ℕ) → act_of r es ≡ Some act → is_unserved r es ≡ false → request_of act es ≡ Some r
  -- an unserved request's act is done by some performer
  pub served : (r act : ℕ) → act_of r es ≡ Some act → is_unserved r es ≡ true → list_any (λ p. matches_act p act es) (performers i) ≡ true
  -- answers
  pub offered : (r : ℕ) (p : Name) → has_offered r p es ≡ true → In p (offers r es)
  pub answered : (r : ℕ) (p : Name) → has_answered r p es ≡ true → has_offered r p es ≡ false → is_some (pass_of r p es) ≡ true
  -- who is engaged takes part, and is held by a request of the present plan
  pub member : (p : Name) → is_engaged p es ≡ true → TakesPart i p
  pub engaged : (p : Name) → is_engaged p es ≡ true → (r : ℕ) × (act : ℕ) × (act_of r es ≡ Some act) × (is_held r p es ≡ true)
  -- who is held offered, and wasn't rejected and isn't through, and the request isn't unserved
  pub held : (r : ℕ) (p : Name) → is_held r p es ≡ true → (has_offered r p es ≡ true) × (is_rejected r p es ≡ false) × (is_through r p es ≡ false) × (is_unserved r es ≡ false)
  -- its act is active or cancelled, or another was confirmed
  pub standing : (r act : ℕ) (p : Name) → is_held r p es ≡ true → act_of r es ≡ Some act
      → ((state act es ≡ Active) ⊎ (state act es ≡ Cancelled)) ⊎ ((q : Name) × (confirmed r es ≡ Some q) × (same_name p q ≡ false))
  -- who was confirmed and isn't through is engaged; who began and isn't through works, and has a unit
  pub confirmed_stays : (r : ℕ) (p : Name) → confirmed r es ≡ Some p → is_through r p es ≡ false → is_engaged p es ≡ true
  pub begun : (r : ℕ) (p : Name) → has_begun r p es ≡ true → is_through r p es ≡ false → is_working r p es ≡ true
  pub has_unit : (r : ℕ) (p : Name) → is_working r p es ≡ true → (performer : Performer) × (performer_of i p ≡ Some performer) × (u : Task) × (unit_of performer r p es ≡ Some u)
  -- who is through on a request of an active act has finished it
  pub finished : (r act : ℕ) (p : Name) → act_of r es ≡ Some act → state act es ≡ Active → confirmed r es ≡ Some p → is_through r p es ≡ true → (b : Bool) × (finish_of r es ≡ Some b)
  -- active acts may go on
  pub going : (act : ℕ) → state act es ≡ Active → may_go_on i es act ≡ true

none_of : {A : Type 0} (o : Option A) → is_some o ≡ false → o ≡ None
none_of None e = refl
none_of (Some a) e = absurd (cc)

no_head : {A : Type 0} (xs : List A) → head_of xs ≡ None → xs ≡ []
no_head [] e = refl
no_head (x ∷ xs) e = absurd (cc)

pub by_option : {B C : Type 0} (o : Option B) → (o ≡ None → C) → ((b : B) → o ≡ Some b → C) → C
by_option None f g = f refl
by_option (Some b) f g = g b refl

none_mapped : {A B : Type 0} (f : A → Option B) (xs : List A) → filter_map f xs ≡ [] → (x : A) → In x xs → f x ≡ None
none_mapped f [] e x h = absurd h
none_mapped f (y ∷ ys) e x h =
    by_option (f y)
    (λ n. elim h [ inl s ↦ ap f s ∙ n | inr g ↦ none_mapped f ys (rw n at e) x g ])
    (λ b s. absurd (let g = rw s at e in cc))

module _ (i : Input) (es : List Entry) (k : Keeps i es) (sound : IsSound i) (running : is_running es ≡ true)
    (calm : is_some (ticked i es) ≡ false) (unasked : wants_plan i es ≡ false) (still : (any_performs i es || any_observes i es) ≡ false) where
  -- ---- what is not legal

  -- what the ticker may do, from asking for a performer on
  abbrev late_choices : List Event
  late_choices = puts_up es ++ (starts es ++ overs i es)

  no_tick : (e : Event) → In e (rejects es ++ (confirms es ++ (leaves es ++ (ends es ++ late_choices)))) → answers_line e ≡ false → row_allows i es e ≡ true → ⊥
  no_tick e h t f =
      true≢false (sym (legal-live i es e running t f) ∙ find_none (is_legal i es) (rejects es ++ (confirms es ++ (leaves es ++ (ends es ++ late_choices)))) (none_of (ticked i es) calm) e h)

  requested : (r : ℕ) → r < requests es → In r (all_requests es)
  requested r l = in_range r 0 (requests es) (omega arith) (omega (arith, l))

  no_reject : (r : ℕ) (p : Name) → r < requests es → In p (offers r es) → row_allows i es (event.Reject r p) ≡ true → ⊥
  no_reject r p l o f =
      no_tick (event.Reject r p) (in_left (event.Reject r p) (rejects es) (confirms es ++ (leaves es ++ (ends es ++ late_choices)))
      (in_flat (λ r. map (event.Reject r) (offers r es)) r (event.Reject r p) (all_requests es) (requested r l) (in_map (event.Reject r) p (offers r es) o))) refl f

  no_confirm : (r : ℕ) (p : Name) → r < requests es → first_offer (offers r es) ≡ Some p → row_allows i es (event.Confirm r p) ≡ true → ⊥
  no_confirm r p l o f =
      let own : In (event.Confirm r p) (map (event.Confirm r) (option_to_list (first_offer (offers r es)))) =
      subst (λ w. In (event.Confirm r p) (map (event.Confirm r) (option_to_list w))) (sym o) (inl refl) in
      no_tick (event.Confirm r p) (in_right (event.Confirm r p) (rejects es) (confirms es ++ (leaves es ++ (ends es ++ late_choices)))
      (in_left (event.Confirm r p) (confirms es) (leaves es ++ (ends es ++ late_choices))
      (in_flat (λ r. map (event.Confirm r) (option_to_list (first_offer (offers r es)))) r (event.Confirm r p) (all_requests es) (requested r l) own))) refl f

  in_filter : (test : ℕ → Bool) (r : ℕ) (xs : List ℕ) → In r xs → test r ≡ true → In r (filter test xs)
  in_filter test r [] h t = absurd h
  in_filter test r (x ∷ xs) (inl e) t = rw (sym (ap test e) ∙ t) (inl e)
  in_filter test r (x ∷ xs) (inr h) t =
      by_test (test x) (λ e. rw e (inr (in_filter test r xs h t))) (λ e. rw e (in_filter test r xs h t))

  past_confirms : (e : Event) → In e (leaves es ++ (ends es ++ late_choices)) → In e (rejects es ++ (confirms es ++ (leaves es ++ (ends es ++ late_choices))))
  past_confirms e h = in_right e (rejects es) (confirms es ++ (leaves es ++ (ends es ++ late_choices))) (in_right e (confirms es) (leaves es ++ (ends es ++ late_choices)) h)

  abbrev left_of : ℕ → List Event
  left_of r = event.Unserved r ∷ map (λ act. event.Fail act fail.NoPerformer) (option_to_list (act_of r es))

  no_leave : (e : Event) (r : ℕ) → r < requests es → is_open r es ≡ true → In e (left_of r) → answers_line e ≡ false → row_allows i es e ≡ true → ⊥
  no_leave e r l o h t f =
      no_tick e (past_confirms e (in_left e (leaves es) (ends es ++ late_choices)
      (in_flat left_of r e (open_requests es) (in_filter (λ r. is_open r es) r (all_requests es) (requested r l) o) h))) t f

  past_leaves : (e : Event) → In e (ends es ++ late_choices) → In e (rejects es ++ (confirms es ++ (leaves es ++ (ends es ++ late_choices))))
  past_leaves e h = past_confirms e (in_right e (leaves es) (ends es ++ late_choices) h)

  abbrev end_of : ℕ → List Event
  end_of act = event.End act ∷ event.Fail act fail.Script ∷ event.Fail act fail.AtEnd ∷ event.Fail act fail.Effect ∷ []

  no_end : (e : Event) (act : ℕ) → In act (places es) → In e (end_of act) → answers_line e ≡ false → row_allows i es e ≡ true → ⊥
  no_end e act l h t f = no_tick e (past_leaves e (in_left e (ends es) late_choices (in_flat end_of act e (places es) l h))) t f

  no_request : (act : ℕ) → In act (places es) → row_allows i es (event.Request (requests es) act) ≡ true → ⊥
  no_request act l f =
      let e : Event = event.Request (requests es) act in
      no_tick e (past_leaves e (in_right e (ends es) late_choices (in_left e (puts_up es) (starts es ++ overs i es) (in_map (event.Request (requests es)) act (places es) l)))) refl f

  no_start : (act : ℕ) → In act (places es) → row_allows i es (event.Start act) ≡ true → ⊥
  no_start act l f =
      let e : Event = event.Start act in
      no_tick e (past_leaves e (in_right e (ends es) late_choices (in_right e (puts_up es) (starts es ++ overs i es) (in_left e (starts es) (overs i es) (in_map event.Start act (places es) l))))) refl f

  no_over : (how : Outcome) → verdict i es ≡ Some how → row_allows i es (event.Over how) ≡ true → ⊥
  no_over how v f =
      let e : Event = event.Over how in
      let own : In e (overs i es) = subst (λ w. In e (map event.Over (option_to_list w))) (sym v) (inl refl) in
      no_tick e (past_leaves e (in_right e (ends es) late_choices (in_right e (puts_up es) (starts es ++ overs i es) (in_right e (starts es) (overs i es) own)))) refl f

  -- a performer's turn is nothing
  idle : (p : Performer) → In p (performers i) → (performed i p.name es ≡ None) × (work_of i p.name es ≡ None)
  idle p h =
      let two = or_parts (any_performs i es) (any_observes i es) still in
      let none = none_of (performer_turn i p.name es) (none_in (λ p. is_some (performer_turn i p.name es)) (performers i) two.0 p h) in
      let w = or_none (performed i p.name es) (option_map (λ w. unit_event i es w.0 p.name w.1) (work_of i p.name es)) none in
      (w.0, map_none (λ w. unit_event i es w.0 p.name w.1) (work_of i p.name es) w.1)

  no_answer : (p : Performer) (e : Event) → In p (performers i) → In e (answers p.name es ++ (stops p.name es ++ beginnings p.name es)) → answers_line e ≡ false → row_allows i es e ≡ true → ⊥
  no_answer p e h g t f =
      true≢false (sym (legal-live i es e running t f) ∙ find_none (is_legal i es) (answers p.name es ++ (stops p.name es ++ beginnings p.name es)) (idle p h).0 e g)

  no_stop : (p : Performer) (r : ℕ) → In p (performers i) → r < requests es → row_allows i es (event.Stopped r p.name) ≡ true → ⊥
  no_stop p r h l f =
      let e : Event = event.Stopped r p.name in
      no_answer p e h (in_right e (answers p.name es) (stops p.name es ++ beginnings p.name es) (in_left e (stops p.name es) (beginnings p.name es) (in_map (λ r. event.Stopped r p.name) r (all_requests es) (requested r l)))) refl f

  no_begin : (p : Performer) (r : ℕ) → In p (performers i) → r < requests es → row_allows i es (event.Begin r p.name) ≡ true → ⊥
  no_begin p r h l f =
      let e : Event = event.Begin r p.name in
      no_answer p e h (in_right e (answers p.name es) (stops p.name es ++ beginnings p.name es) (in_right e (stops p.name es) (beginnings p.name es) (in_map (λ r. event.Begin r p.name) r (all_requests es) (requested r l)))) refl f

  abbrev answer_to : Name → ℕ → List Event
  answer_to p r = event.Offer r p ∷ event.Pass r p pass.Late ∷ event.Pass r p pass.Other ∷ event.Pass r p pass.Busy ∷ []

  no_reply : (p : Performer) (r : ℕ) (e : Event) → In p (performers i) → r < requests es → In e (answer_to p.name r) → answers_line e ≡ false → row_allows i es e ≡ true → ⊥
  no_reply p r e h l g t f =
      no_answer p e h (in_left e (answers p.name es) (stops p.name es ++ beginnings p.name es) (in_flat (answer_to p.name) r e (all_requests es) (requested r l) g)) t f

  no_work : (p : Performer) (r : ℕ) → In p (performers i) → r < requests es → next_unit i r p.name es ≡ None
  no_work p r h l =
      map_none (λ u. (r, u)) (next_unit i r p.name es) (none_mapped (unit_on i p.name es) (all_requests es) (no_head (filter_map (unit_on i p.name es) (all_requests es)) (idle p h).1) r (requested r l))

  -- ---- who is engaged

  for_state : (r act : ℕ) (s : ActState) (test : ActState → Bool) → act_of r es ≡ Some act → state act es ≡ s → option_map_or (λ a. test (state a es)) (act_of r es) false ≡ test s
  for_state r act s test a e = ap (λ o. option_map_or (λ a. test (state a es)) o false) a ∙ ap test e

  -- another was confirmed
  other_confirmed : (p : Performer) (r act : ℕ) (q : Name) → act_of r es ≡ Some act → is_held r p.name es ≡ true → confirmed r es ≡ Some q → same_name p.name q ≡ false → ⊥
  other_confirmed p r act q a h c d =
      let w = k.held r p.name h in
      no_reject r p.name (k.numbered r act a) (k.offered r p.name w.0)
      (and_from (has_offered r p.name es) _ w.0
      (and_from (not (is_rejected r p.name es)) _ (not_from_false (is_rejected r p.name es) w.1)
      (and_from (not (is_confirmed r p.name es)) _ (not_from_false (is_confirmed r p.name es) (ap (λ o. option_map_or (same_name p.name) o false) c ∙ d))
      (ap (λ o. is_some o || is_for_cancelled r es) c))))

  -- nobody was confirmed, and the act is active
  none_confirmed : (p : Performer) (r act : ℕ) → act_of r es ≡ Some act → is_held r p.name es ≡ true → state act es ≡ Active → confirmed r es ≡ None → ⊥
  none_confirmed p r act a h s c =
      let w = k.held r p.name h in
      let open_now : is_open r es ≡ true =
      and_from (is_for_active r es) (is_none (confirmed r es) && not (is_unserved r es)) (for_state r act Active is_active a s)
      (and_from (is_none (confirmed r es)) (not (is_unserved r es)) (ap is_none c) (not_from_false (is_unserved r es) w.3)) in
      first_is (offers r es) refl (k.offered r p.name w.0) open_now
    where
      first_is : (os : List Name) → offers r es ≡ os → In p.name (offers r es) → is_open r es ≡ true → ⊥
      first_is [] e o open_now = subst (In p.name) e o
      first_is (q ∷ os) e o open_now =
          let f : first_offer (offers r es) ≡ Some q = ap first_offer e in
          no_confirm r q (k.numbered r act a) f
          (and_from (is_open r es) (option_map_or (same_name q) (first_offer (offers r es)) false) open_now (ap (λ o. option_map_or (same_name q) o false) f ∙ name_itself q))

  -- nobody was confirmed, and the act is cancelled
  cancelled_offer : (p : Performer) (r act : ℕ) → act_of r es ≡ Some act → is_held r p.name es ≡ true → state act es ≡ Cancelled → confirmed r es ≡ None → ⊥
  cancelled_offer p r act a h s c =
      let w = k.held r p.name h in
      no_reject r p.name (k.numbered r act a) (k.offered r p.name w.0)
      (and_from (has_offered r p.name es) _ w.0
      (and_from (not (is_rejected r p.name es)) _ (not_from_false (is_rejected r p.name es) w.1)
      (and_from (not (is_confirmed r p.name es)) _ (not_from_false (is_confirmed r p.name es) (ap (λ o. option_map_or (same_name p.name) o false) c))
      (ap (λ o. is_some o || is_for_cancelled r es) c ∙ for_state r act Cancelled is_cancelled a s))))

  -- it was confirmed itself, and the act is cancelled
  cancelled_work : (p : Performer) (r act : ℕ) → In p (performers i) → act_of r es ≡ Some act → is_held r p.name es ≡ true → state act es ≡ Cancelled → is_confirmed r p.name es ≡ true → ⊥
  cancelled_work p r act m a h s c =
      let w = k.held r p.name h in
      no_stop p r m (k.numbered r act a)
      (and_from (is_confirmed r p.name es) _ c (and_from (not (is_through r p.name es)) _ (not_from_false (is_through r p.name es) w.2) (for_state r act Cancelled is_cancelled a s)))

  -- it was confirmed itself, and the act is active
  active_work : (p : Performer) (r act : ℕ) → In p (performers i) → act_of r es ≡ Some act → is_held r p.name es ≡ true → state act es ≡ Active → is_confirmed r p.name es ≡ true → ⊥
  active_work p r act m a h s c =
      let w = k.held r p.name h in
      let active = for_state r act Active is_active a s in
      by_test (has_begun r p.name es)
      (λ b.
      let works = k.begun r p.name b w.2 in
      let u = k.has_unit r p.name works in
      let now : next_unit i r p.name es ≡ Some u.2 =
      ap (λ b. if b then option_and_then (λ performer. unit_of performer r p.name es) (performer_of i p.name) else None) (and_from (is_working r p.name es) (is_for_active r es) works active)
      ∙ ap (λ o. option_and_then (λ performer. unit_of performer r p.name es) o) u.1 ∙ u.3 in
      let none = no_work p r m (k.numbered r act a) in
      absurd (let e = sym now ∙ none in cc))
      (λ b. no_begin p r m (k.numbered r act a) (and_from (is_confirmed r p.name es) _ c (and_from (not (has_begun r p.name es)) (is_for_active r es) (not_from_false (has_begun r p.name es) b) active)))

  nobody_engaged : (p : Performer) → In p (performers i) → is_engaged p.name es ≡ true → ⊥
  nobody_engaged p m e =
      let w = k.engaged p.name e in
      by_confirmed w.0 w.1 w.2 w.3 (confirmed w.0 es) refl (k.standing w.0 w.1 p.name w.3 w.2)
    where
      by_confirmed : (r act : ℕ) → act_of r es ≡ Some act → is_held r p.name es ≡ true → (o : Option Name) → confirmed r es ≡ o
          → ((state act es ≡ Active) ⊎ (state act es ≡ Cancelled)) ⊎ ((q : Name) × (confirmed r es ≡ Some q) × (same_name p.name q ≡ false)) → ⊥
      by_confirmed r act a h o c (inr w) = other_confirmed p r act w.0 a h w.1 w.2
      by_confirmed r act a h None c (inl (inl s)) = none_confirmed p r act a h s c
      by_confirmed r act a h None c (inl (inr s)) = cancelled_offer p r act a h s c
      by_confirmed r act a h (Some q) c (inl s) =
          by_test (same_name p.name q)
          (λ t.
          let mine : is_confirmed r p.name es ≡ true = ap (λ o. option_map_or (same_name p.name) o false) c ∙ t in
          elim s [ inl s ↦ active_work p r act m a h s mine | inr s ↦ cancelled_work p r act m a h s mine ])
          (λ t. other_confirmed p r act q a h c t)

  -- ---- active acts

  may_request : (act : ℕ) → In act (places es) → state act es ≡ Active → may_be_put_up i es act (request_of act es) ≡ true → ⊥
  may_request act l s m =
      no_request act l (and_from (requests es == requests es) _ (eq-eqb (requests es) (requests es) refl) (and_from (is_act_active es act) _ (ap is_active s) m))

  member_found : (p : Performer) (ps : List Performer) → In p ps → (q : Performer) × (find (λ performer. same_name p.name performer.name) ps ≡ Some q)
  member_found p [] h = absurd h
  member_found p (q ∷ ps) (inl e) = (q, rw (ap (λ x. same_name p.name x.name) (sym e) ∙ name_itself p.name) refl)
  member_found p (q ∷ ps) (inr h) = by_test (same_name p.name q.name) (λ t. (q, rw t refl)) (λ t. let w = member_found p ps h in (w.0, rw t w.1))

  same_reason : (why : PassWhy) → same_pass why why ≡ true
  same_reason pass.Other = refl
  same_reason pass.Busy = refl
  same_reason pass.Late = refl

  reply_in : (p : Name) (r : ℕ) (why : PassWhy) → In (event.Pass r p why) (answer_to p r)
  reply_in p r pass.Late = inr (inl refl)
  reply_in p r pass.Other = inr (inr (inl refl))
  reply_in p r pass.Busy = inr (inr (inr (inl refl)))

  -- a performer has answered each request of the plan
  has_replied : (p : Performer) (r act : ℕ) → In p (performers i) → act_of r es ≡ Some act → has_answered r p.name es ≡ false → ⊥
  has_replied p r act m a n =
      let w = member_found p (performers i) m in
      let l = k.numbered r act a in
      by_option (pass_reason w.0 r es)
      (λ e. no_reply p r (event.Offer r p.name) m l (inl refl) refl
      (ap (λ o. option_map_or (λ performer. not (has_answered r p.name es) && is_none (pass_reason performer r es)) o false) w.1
      ∙ and_from (not (has_answered r p.name es)) _ (not_from_false (has_answered r p.name es) n) (ap is_none e)))
      (λ why e. no_reply p r (event.Pass r p.name why) m l (reply_in p.name r why) refl
      (ap (λ o. option_map_or (λ performer. is_of_run r es && (not (has_answered r p.name es) && is_pass why (pass_reason performer r es))) o false) w.1
      ∙ and_from (is_of_run r es) _ (k.of_run r act a) (and_from (not (has_answered r p.name es)) _ (not_from_false (has_answered r p.name es) n) (ap (is_pass why) e ∙ same_reason why))))

  -- an open request without an offer
  no_offers : (r act : ℕ) → act_of r es ≡ Some act → request_of act es ≡ Some r → state act es ≡ Active → is_open r es ≡ true → offers r es ≡ [] → ⊥
  no_offers r act a q s open_now none =
      elim (all_or (λ p. is_some (pass_of r p.name es)) (performers i)) [
        | inl all ↦
            let passed : is_passed i r es ≡ true = and_from (is_open r es) (list_all (λ p. is_some (pass_of r p.name es)) (performers i)) open_now all in
            by_test (was_busy i r es)
            (λ b. no_leave (event.Unserved r) r (k.numbered r act a) open_now (inl refl) refl (and_from (is_passed i r es) (was_busy i r es) passed b))
            (λ b. no_leave (event.Fail act fail.NoPerformer) r (k.numbered r act a) open_now
            (inr (subst (λ o. In (event.Fail act fail.NoPerformer) (map (λ act. event.Fail act fail.NoPerformer) (option_to_list o))) (sym a) (inl refl))) refl
            (and_from (is_act_active es act) _ (ap is_active s)
            (ap (λ o. option_map_or (λ r. is_passed i r es && not (was_busy i r es)) o false) q
            ∙ and_from (is_passed i r es) (not (was_busy i r es)) passed (not_from_false (was_busy i r es) b))))
        | inr w ↦
            by_test (has_answered r (w.0).name es)
            (λ t.
            let silent : has_offered r (w.0).name es ≡ false =
            by_test (has_offered r (w.0).name es) (λ o. absurd (subst (In (w.0).name) none (k.offered r (w.0).name o))) (λ o. o) in
            clash (is_some (pass_of r (w.0).name es)) (k.answered r (w.0).name t silent) w.2)
            (λ t. has_replied w.0 r act w.1 a t)
      ]

  -- the work on it was finished
  work_done : (r act : ℕ) → In act (places es) → request_of act es ≡ Some r → state act es ≡ Active → (b : Bool) → finish_of r es ≡ Some b → ⊥
  work_done r act l q s false f =
      no_end (event.Fail act fail.Script) act l (inr (inl refl)) refl
      (and_from (is_act_active es act) _ (ap is_active s) (ap (λ o. option_map_or (λ b. same_flag false b) (option_and_then (λ r. finish_of r es) o) false) q ∙ ap (λ o. option_map_or (λ b. same_flag false b) o false) f))
  work_done r act l q s true f =
      let active = ap is_active s in
      let ok : is_finished true es act ≡ true = ap (λ o. option_map_or (λ b. same_flag true b) (option_and_then (λ r. finish_of r es) o) false) q ∙ ap (λ o. option_map_or (λ b. same_flag true b) o false) f in
      by_test (may_end i es act)
      (λ e. by_test (ends_well i es act)
      (λ w. no_end (event.End act) act l (inl refl) refl
      (and_from (is_act_active es act) _ active (and_from (is_finished true es act) _ ok (and_from (may_go_on i es act) _ (k.going act s) (and_from (may_end i es act) (ends_well i es act) e w)))))
      (λ w. no_end (event.Fail act fail.Effect) act l (inr (inr (inr (inl refl)))) refl
      (and_from (is_act_active es act) _ active (and_from (is_finished true es act) _ ok (and_from (may_end i es act) (not (ends_well i es act)) e (not_from_false (ends_well i es act) w))))))
      (λ e. no_end (event.Fail act fail.AtEnd) act l (inr (inr (inl refl))) refl
      (and_from (is_act_active es act) _ active (and_from (is_finished true es act) (not (may_end i es act)) ok (not_from_false (may_end i es act) e))))

  no_active : (act : ℕ) → In act (places es) → state act es ≡ Active → ⊥
  no_active act l s =
      by_option (request_of act es)
      (λ e. may_request act l s (ap (may_be_put_up i es act) e))
      (λ r q. let a = k.asked r act q in by_test (is_unserved r es)
      (λ u.
      let w = any_in (λ p. matches_act p act es) (performers i) (k.served r act a u) in
      let idle_one : is_engaged (w.0).name es ≡ false = by_test (is_engaged (w.0).name es) (λ e. absurd (nobody_engaged w.0 w.1 e)) (λ e. e) in
      let wanted : is_wanted i es act ≡ true = in_any (λ p. matches_act p act es && not (is_engaged p.name es)) (performers i) w.0 w.1
      (and_from (matches_act w.0 act es) (not (is_engaged (w.0).name es)) w.2 (not_from_false (is_engaged (w.0).name es) idle_one)) in
      may_request act l s (ap (may_be_put_up i es act) q ∙ and_from (is_unserved r es) (is_wanted i es act) u wanted))
      (λ u. by_option (confirmed r es)
      (λ c.
      let open_now : is_open r es ≡ true =
      and_from (is_for_active r es) (is_none (confirmed r es) && not (is_unserved r es)) (for_state r act Active is_active a s)
      (and_from (is_none (confirmed r es)) (not (is_unserved r es)) (ap is_none c) (not_from_false (is_unserved r es) u)) in
      by_offers r act a q s open_now (offers r es) refl)
      (λ p c. by_test (is_through r p es)
      (λ t. let w = k.finished r act p a s c t in work_done r act l q s w.0 w.1)
      (λ t. let e = k.confirmed_stays r p c t in let w = k.member p e in nobody_engaged w.0 w.1 (ap (λ n. is_engaged n es) (sym w.2) ∙ e)))))
    where
      by_offers : (r act : ℕ) → act_of r es ≡ Some act → request_of act es ≡ Some r → state act es ≡ Active → is_open r es ≡ true → (os : List Name) → offers r es ≡ os → ⊥
      by_offers r act a q s open_now [] e = no_offers r act a q s open_now e
      by_offers r act a q s open_now (p ∷ os) e =
          let f : first_offer (offers r es) ≡ Some p = ap first_offer e in
          no_confirm r p (k.numbered r act a) f
          (and_from (is_open r es) (option_map_or (same_name p) (first_offer (offers r es)) false) open_now (ap (λ o. option_map_or (same_name p) o false) f ∙ name_itself p))

  -- ---- settled

  not_settled : is_settled i es ≡ true → ⊥
  not_settled s =
      by_option (verdict i es)
      (λ v. clash (wants_plan i es) (and_from (is_running es) _ running (and_from (is_settled i es) (is_none (verdict i es)) s (ap is_none v))) unasked)
      (λ how v. no_over how v (and_from (is_settled i es) _ s (ap (λ v. is_outcome how (ending i es v)) v ∙ (same_outcome-decides how how).1 refl)))

  waits_else : (s : ActState) → is_done s ≡ false → is_active s ≡ false → is_harmed s ≡ false → is_waiting s ≡ true
  waits_else Waiting d a h = refl
  waits_else Active d a h = absurd (cc)
  waits_else Done d a h = absurd (cc)
  waits_else Failed d a h = absurd (cc)
  waits_else Cancelled d a h = absurd (cc)

  abbrev none_active : Bool
  none_active = list_all (λ act. not (is_active (state act es))) (places es)

  abbrev none_engaged : Bool
  none_engaged = list_all (λ p. not (is_engaged p.name es)) (performers i)

  abbrev all_done : Bool
  all_done = list_all (λ act. is_done (state act es)) (places es)

  inactive : (act : ℕ) → In act (places es) → is_active (state act es) ≡ false
  inactive act l = by_test (is_active (state act es)) (λ t. absurd (no_active act l (active-so (state act es) t))) (λ t. t)

  settles : (any_harmed es || (all_done || is_blocked i es)) ≡ true → ⊥
  settles h =
      not_settled (and_from none_active _ (in_all (λ act. not (is_active (state act es))) (places es) (λ act l. not_from_false (is_active (state act es)) (inactive act l)))
      (and_from none_engaged (any_harmed es || (all_done || is_blocked i es))
      (in_all (λ p. not (is_engaged p.name es)) (performers i) (λ p m. not_from_false (is_engaged p.name es) (by_test (is_engaged p.name es) (λ e. absurd (nobody_engaged p m e)) (λ e. e)))) h))

  -- the first act that hasn't ended
  least : (n : ℕ) → ((j : ℕ) → j < n → is_done (state j es) ≡ true) ⊎ ((act : ℕ) × (act < n) × (is_done (state act es) ≡ false) × ((j : ℕ) → j < act → is_done (state j es) ≡ true))
  least zero = inl (λ j l. absurd (omega (arith, l)))
  least (suc n) =
      elim (least n) [
        | inl all ↦ by_test (is_done (state n es))
            (λ t. inl (λ j l. elim (below n j l) [ inl m ↦ all j m | inr e ↦ ap (λ j. is_done (state j es)) e ∙ t ]))
            (λ t. inr (n, omega arith, t, all))
        | inr w ↦ inr (w.0, (let l = w.1 in omega (arith, l)), w.2, w.3)
      ]
    where
      below : (n j : ℕ) → j < suc n → (j < n) ⊎ (j ≡ n)
      below n j l = grind arith

  place_in : (act : ℕ) → act < length (plan es) → In act (places es)
  place_in act l = in_range act 0 (length (plan es)) (omega arith) (omega (arith, l))

  blocked_or : is_blocked i es ≡ false → any_harmed es ≡ false → (act : ℕ) → In act (places es) → is_ready i es act ≡ true → ⊥
  blocked_or b h act l ready =
      elim (all_or (λ act. not (is_ready i es act) || not (is_startable i es act)) (places es)) [
        | inr w ↦
            let two = or_parts (not (is_ready i es w.0)) (not (is_startable i es w.0)) w.2 in
            let place = range_in w.0 0 (length (plan es)) w.1 in
            let within : w.0 < length (plan es) = (let m = place.1 in omega (arith, m)) in
            no_start w.0 w.1 (and_from (is_place es w.0) _ (lt-ltb w.0 (length (plan es)) within)
            (and_from (is_ready i es w.0) _ (not-false (is_ready i es w.0) two.0) (and_from (is_startable i es w.0) _ (not-false (is_startable i es w.0) two.1) (not_from_false (any_harmed es) h))))
        | inl none ↦
            elim (all_or (λ o. is_none (seen_by i o es)) (observers i)) [
              | inl blind ↦
                  clash (is_blocked i es)
                  (and_from (not (any_harmed es)) _ (not_from_false (any_harmed es) h)
                  (and_from (list_any (is_ready i es) (places es)) _ (in_any (is_ready i es) (places es) act l ready)
                  (and_from (list_all (λ act. not (is_ready i es act) || not (is_startable i es act)) (places es)) _ none blind))) b
              | inr w ↦
                  let two = or_parts (any_performs i es) (any_observes i es) still in
                  let turn_none = none_of (observer_turn i (w.0).name es) (none_in (λ o. is_some (observer_turn i o.name es)) (observers i) two.1 w.0 w.1) in
                  let seen = map_none (edit_event i es (by.Observer (w.0).name)) (next_seen i (w.0).name es) turn_none in
                  let own = observer_found i sound w.0 w.1 in
                  let none_seen : seen_by i w.0 es ≡ None = sym (ap (λ o. option_and_then (λ observer. seen_by i observer es) o) own) ∙ seen in
                  clash (is_none (seen_by i w.0 es)) (ap is_none none_seen) w.2
            ]
      ]

  pub dead : ⊥
  dead =
      by_test (any_harmed es || (all_done || is_blocked i es)) settles
      (λ f.
      let one = or_parts (any_harmed es) (all_done || is_blocked i es) f in
      let two = or_parts all_done (is_blocked i es) one.1 in
      elim (least (length (plan es))) [
        | inl all ↦ clash all_done (in_all (λ act. is_done (state act es)) (places es) (λ act l. let w = range_in act 0 (length (plan es)) l in all act (let m = w.1 in omega (arith, m)))) two.0
        | inr w ↦
            let l = place_in w.0 w.1 in
            let waits = waits_else (state w.0 es) w.2 (inactive w.0 l) (none_in (λ act. is_harmed (state act es)) (places es) one.0 w.0 l) in
            blocked_or two.1 one.0 w.0 l
            (and_from (is_waiting (state w.0 es)) _ waits
            (in_all (λ j. not (is_arc (grounds i.domain (plan es)) j w.0) || is_done (state j es)) (range_with_len 0 w.0)
            (λ j m. or_right (not (is_arc (grounds i.domain (plan es)) j w.0)) (is_done (state j es)) (w.3 j (let e = range_in j 0 w.0 m in let b = e.1 in omega (arith, b))))))
      ])
