-- What histories keep of the acts that requests are for.
use Rattle.std.proofs.Common.{◌≡◌, ℕ, ◌+◌, ◌<◌, ◌==◌, ◌&&◌, ◌||◌, Bool, true, false, not, Option, Some, None, is_some, List, option_and_then, if◌then◌else◌, refl, arith, ap, sym, ◌∙◌, subst, inl, inr, ◌⊎◌}
use Rattle.std.specs.List.{list_all}
use Rattle.std.specs.Option.{option_map_or, unwrap_or}
use Rattle.std.proofs.lemmas.Bool.{and_from, eqb-true, false_from_ne_true, or_cases, or_from, or_left, or_parts, or_right, true≢false, and_parts}
use Rattle.ps_world.specs.Names.{same_name}
use Rattle.ps_world.specs.declared.names.Name.{Name}
use Rattle.ps_world.specs.Knowledge.{edited}
use Rattle.ps_world.proofs.SameTexts.{name_itself}
use Rattle.ps_world.proofs.Optionals.{none_not_some, some_same}
use Rattle.ps_action.specs.declared.states.ActState.{ActState}
use Rattle.ps_action.specs.declared.states.ActState.TheVariants.{Waiting, Active, Done, Failed, Cancelled}
use Rattle.ps_action.proofs.Facts.{same_name-is}
use Rattle.ps_machine.specs.declared.inputs.Input.{Input}
use Rattle.ps_machine.specs.declared.members.Unit.{Unit as Task}
use Rattle.ps_machine.specs.declared.journal.By.TheVariants as by
use Rattle.ps_machine.specs.declared.journal.PassWhy.{PassWhy}
use Rattle.ps_machine.specs.declared.journal.FailWhy.{FailWhy}
use Rattle.ps_machine.specs.declared.journal.FailWhy.TheVariants as fail
use Rattle.ps_machine.specs.declared.journal.Event.{Event}
use Rattle.ps_machine.specs.declared.journal.Event.TheVariants as event
use Rattle.ps_machine.specs.declared.journal.Entry.{Entry}
use Rattle.ps_rules.specs.Reading.{only_if}
use Rattle.ps_rules.specs.Runs.{is_active, is_cancelled, is_waiting, says_state, state}
use Rattle.ps_rules.specs.Auctions.{act_of, confirmed, finish_of, is_unserved, leaves_unserved, has_begun, is_begin, is_for_cancelled, is_last, is_open, is_through, is_unit, is_working, pass_of, request_of, requests, says_act, says_confirm, says_finish, units_done}
use Rattle.ps_rules.specs.Members.{as_edit, next_edit, next_unit, performers}
use Rattle.ps_rules.specs.Settled.{any_harmed, is_ready, is_startable}
use Rattle.ps_rules.specs.Known.{know}
use Rattle.ps_rules.specs.Lines.{edit_refusal}
use Rattle.ps_rules.specs.Legal.{row_allows, is_cause, is_edit, is_act_active, is_confirmed, is_feedback, is_finish, is_finished, is_passed, is_work, same_flag, was_busy}
use Rattle.ps_rules.specs.History.{IsHistory}
use Rattle.ps_rules.specs.History.IsHistory.{nothing, block}
use Rattle.ps_rules.proofs.Kept.{fits-legal}
use Rattle.ps_progress_laws.proofs.Blocks.{act-block, begun-block, confirmed-block, finish-block, held-block, state-block, through-block, units-block, unserved-block}
use Rattle.ps_progress_laws.proofs.Held.{is_held, says_held}
use Rattle.ps_progress_laws.proofs.Lists.{all_in}
use Rattle.ps_progress_laws.proofs.Requests.{last_one}
use Rattle.ps_progress_laws.proofs.Offers.{confirmed_offered, offered_numbered, offer_says, opens_for}
use Rattle.ps_progress_laws.proofs.Passes.{offered_member, offered_unpassed}
use Rattle.ps_progress_laws.proofs.Working.{finish_works, through_confirmed, unit_works, working_begun, working_confirmed}
use Rattle.ps_progress_laws.proofs.Picking.{at_one, by_test, clash, kept, none_some, pick_no, pick_yes, picked}
use Rattle.ps_progress_laws.proofs.Engaged.{held_offering}

-- a request that holds a performer isn't unserved
pub held_served : (i : Input) (es : List Entry) → IsHistory i es → (r : ℕ) (p : Name) → is_held r p es ≡ true → is_unserved r es ≡ false
held_served i _ nothing r p o = absurd (cc)
held_served i _ (block es e h legal own) r p o =
    unserved-block i es e r ∙ step e.what (fits-legal i es e.what legal) (held_served i es h r p) (sym (held-block i es e r p) ∙ o)
  where
    dropped : (s : ℕ) (q : Name) → (is_held r p es ≡ true → is_unserved r es ≡ false) → unwrap_or (only_if ((r == s) && same_name p q) false) (is_held r p es) ≡ true
        → (is_unserved r es || false) ≡ false
    dropped s q old o = or_from (is_unserved r es) false (old (kept ((r == s) && same_name p q) (is_held r p es) o).1) refl

    not_both : (o : Option PassWhy) → ((why : PassWhy) → o ≡ Some why → ⊥) → is_some o ≡ true → ⊥
    not_both None n e = absurd (cc)
    not_both (Some why) n e = n why refl

    step : (e : Event) → row_allows i es e ≡ true → (is_held r p es ≡ true → is_unserved r es ≡ false) → unwrap_or (says_held r p e) (is_held r p es) ≡ true
        → (is_unserved r es || leaves_unserved r e) ≡ false
    step (event.Offer s q) f old o =
        elim (picked ((r == s) && same_name p q) true (is_held r p es) true o) [
          | inl w ↦
              let a = opens_for s es (offer_says i es s q f).opened in
              or_from (is_unserved r es) false (ap (λ t. is_unserved t es) (at_one r s p q w.0).0 ∙ a.4) refl
          | inr w ↦ or_from (is_unserved r es) false (old w.1) refl
        ]
    step (event.Reject s q) f old o = dropped s q old o
    step (event.Finish s q ok) f old o = dropped s q old o
    step (event.Stopped s q) f old o = dropped s q old o
    step (event.Unserved s) f old o =
        let offered = (held_offering i es h r p o).0 in
        let m = offered_member i es h r p offered in
        let all = (and_parts (is_open s es) (list_all (λ p. is_some (pass_of s p.name es)) (performers i)) (and_parts (is_passed i s es) (was_busy i s es) f).0).1 in
        or_from (is_unserved r es) (r == s) (old o)
        (false_from_ne_true (r == s) (λ t.
        not_both (pass_of r p es) (λ why. offered_unpassed i es h r p why offered)
        (ap (λ n. is_some (pass_of r n es)) m.2 ∙ ap (λ t. is_some (pass_of t (m.0).name es)) (eqb-true r s t) ∙ all_in (λ p. is_some (pass_of s p.name es)) (performers i) all m.0 m.1)))
    step e f old o = or_from (is_unserved r es) (leaves_unserved r e) (old o) refl

-- what finished was done by who was confirmed
pub finish_says : (i : Input) (es : List Entry) → IsHistory i es → (r : ℕ) (b : Bool) → finish_of r es ≡ Some b → (q : Name) × (confirmed r es ≡ Some q) × (is_through r q es ≡ true)
finish_says i _ nothing r b o = none_not_some b o
finish_says i _ (block es e h legal own) r b o =
    let w = step e.what (fits-legal i es e.what legal) (finish_says i es h r b) (sym (finish-block i es e r) ∙ o) in
    (w.0, confirmed-block i es e r ∙ w.1, through-block i es e r w.0 ∙ w.2)
  where
    step : (e : Event) → row_allows i es e ≡ true → (finish_of r es ≡ Some b → (q : Name) × (confirmed r es ≡ Some q) × (is_through r q es ≡ true)) → unwrap_or (says_finish r e) (finish_of r es) ≡ Some b
        → (q : Name) × (unwrap_or (says_confirm r e) (confirmed r es) ≡ Some q) × ((is_through r q es || is_last r q e) ≡ true)
    step (event.Finish s q ok) f old o =
        elim (picked (r == s) (Some ok) (finish_of r es) (Some b) o) [
          | inl w ↦
              let works = finish_works i es s q ok f in (
                q,
                ap (λ t. confirmed t es) (eqb-true r s w.0) ∙ working_confirmed i es h s q works,
                or_right (is_through r q es) ((r == s) && same_name q q) (and_from (r == s) (same_name q q) w.0 (name_itself q)),
              )
          | inr w ↦ let u = old w.1 in (u.0, u.1, or_left (is_through r u.0 es) ((r == s) && same_name u.0 q) u.2)
        ]
    step (event.Confirm s q) f old o =
        let u = old o in
        by_test (r == s)
        (λ t. let a = opens_for s es (and_parts (is_open s es) _ f).0 in none_some (confirmed s es) u.0 (ap (λ t. confirmed t es) (sym (eqb-true r s t)) ∙ u.1) a.3)
        (λ t. (u.0, pick_no (r == s) (Some q) (confirmed r es) t ∙ u.1, or_left (is_through r u.0 es) false u.2))
    step e f old o = let u = old o in (u.0, u.1, or_left (is_through r u.0 es) (is_last r u.0 e) u.2)

-- an act with a request doesn't wait
pub asked_started : (i : Input) (es : List Entry) → IsHistory i es → (r act : ℕ) → act_of r es ≡ Some act → is_waiting (state act es) ≡ false
asked_started i _ nothing r act a = none_not_some act a
asked_started i _ (block es e h legal own) r act a =
    let now = step e.what (fits-legal i es e.what legal) (asked_started i es h r act) (sym (act-block i es e r) ∙ a) in
    elim (state-block i es e act) [ inl s ↦ ap is_waiting s ∙ now | inr s ↦ ap is_waiting s ]
  where
    other : (b : Bool) (s was : ActState) → is_waiting s ≡ false → is_waiting was ≡ false → is_waiting (unwrap_or (only_if b s) was) ≡ false
    other true s was x y = x
    other false s was x y = y

    active_waits : (s : ActState) → is_active s ≡ true → is_waiting s ≡ false
    active_waits Active e = refl
    active_waits Waiting e = absurd (cc)
    active_waits Done e = refl
    active_waits Failed e = refl
    active_waits Cancelled e = refl

    step : (e : Event) → row_allows i es e ≡ true → (act_of r es ≡ Some act → is_waiting (state act es) ≡ false) → unwrap_or (says_act r e) (act_of r es) ≡ Some act → is_waiting (unwrap_or (says_state act e) (state act es)) ≡ false
    step (event.Run for acts) f old a = none_not_some act a
    step (event.Replan acts) f old a = none_not_some act a
    step (event.Request s j) f old a =
        elim (picked (r == s) (Some j) (act_of r es) (Some act) a) [
          | inl w ↦ active_waits (state act es) (ap (λ k. is_active (state k es)) (sym (some_same j act w.1)) ∙ (and_parts (is_act_active es j) _ (and_parts (s == requests es) _ f).1).0)
          | inr w ↦ old w.1
        ]
    step (event.Start j) f old a = other (act == j) Active (state act es) refl (old a)
    step (event.End j) f old a = other (act == j) Done (state act es) refl (old a)
    step (event.Fail j why) f old a = other (act == j) Failed (state act es) refl (old a)
    step (event.Cancel j why) f old a = other (act == j) Cancelled (state act es) refl (old a)
    step e f old a = old a

not_active_of : {C : Type 0} (s t : ActState) → s ≡ t → is_active t ≡ false → s ≡ Active → C
not_active_of s t e n a = absurd (true≢false (ap is_active (sym a ∙ e) ∙ n))

-- who is through on a request of an active act has finished it
pub finished : (i : Input) (es : List Entry) → IsHistory i es → (r act : ℕ) (p : Name) → act_of r es ≡ Some act → state act es ≡ Active → is_through r p es ≡ true → (b : Bool) × (finish_of r es ≡ Some b)
finished i _ nothing r act p a s t = none_not_some act a
finished i _ (block es e h legal own) r act p a s t =
    elim (state-block i es e act) [
      | inl now ↦
          let w = step e.what (fits-legal i es e.what legal) (finished i es h r act p) (sym (act-block i es e r) ∙ a) (sym now ∙ s) (or_cases (is_through r p es) (is_last r p e.what) (sym (through-block i es e r p) ∙ t)) in
          (w.0, finish-block i es e r ∙ w.1)
      | inr now ↦ not_active_of Cancelled Cancelled refl refl (sym now ∙ s)
    ]
  where
    still : (b ok was : Bool) (o : Option Bool) → o ≡ Some was → (x : Bool) × (unwrap_or (only_if b (Some ok)) o ≡ Some x)
    still true ok was o e = (ok, refl)
    still false ok was o e = (was, e)

    is_so : (s : ActState) → is_cancelled s ≡ true → s ≡ Active → ⊥
    is_so s c a = true≢false (sym c ∙ ap is_cancelled a)

    numbered_through : is_through r p es ≡ true → r < requests es
    numbered_through t = offered_numbered i es h r p (confirmed_offered i es h r p (through_confirmed i es h r p t))

    moved : (j : ℕ) (to : ActState) → is_active to ≡ false → unwrap_or (only_if (act == j) to) (state act es) ≡ Active → state act es ≡ Active
    moved j to n s = elim (picked (act == j) to (state act es) Active s) [ inl w ↦ not_active_of to to refl n w.1 | inr w ↦ w.1 ]

    step : (e : Event) → row_allows i es e ≡ true → (act_of r es ≡ Some act → state act es ≡ Active → is_through r p es ≡ true → (b : Bool) × (finish_of r es ≡ Some b))
        → unwrap_or (says_act r e) (act_of r es) ≡ Some act → unwrap_or (says_state act e) (state act es) ≡ Active → (is_through r p es ≡ true) ⊎ (is_last r p e ≡ true)
        → (b : Bool) × (unwrap_or (says_finish r e) (finish_of r es) ≡ Some b)
    step (event.Run for acts) f old a s t = none_not_some act a
    step (event.Replan acts) f old a s t = none_not_some act a
    step (event.Request q j) f old a s (inl t) =
        let n = eqb-true q (requests es) (and_parts (q == requests es) _ f).0 in
        let l = numbered_through t in
        elim (picked (r == q) (Some j) (act_of r es) (Some act) a) [
          | inl w ↦ let m = eqb-true r q w.0 in absurd (omega (arith, l, m, n))
          | inr w ↦ old w.1 s t
        ]
    step (event.Finish q x ok) f old a s (inl t) = let w = old a s t in still (r == q) ok w.0 (finish_of r es) w.1
    step (event.Finish q x ok) f old a s (inr t) = (ok, pick_yes (r == q) (Some ok) (finish_of r es) (and_parts (r == q) (same_name p x) t).0)
    step (event.Stopped q x) f old a s (inl t) = old a s t
    step (event.Stopped q x) f old a s (inr t) =
        let c = (and_parts (not (is_through q x es)) (is_for_cancelled q es) (and_parts (is_confirmed q x es) _ f).1).1 in
        let there : act_of q es ≡ Some act = ap (λ t. act_of t es) (sym (at_one r q p x t).0) ∙ a in
        absurd (is_so (state act es) (sym (ap (λ o. option_map_or (λ i. is_cancelled (state i es)) o false) there) ∙ c) s)
    step (event.Start j) f old a s (inl t) =
        elim (picked (act == j) Active (state act es) Active s) [
          | inl w ↦
              let waits = (and_parts (is_waiting (state j es)) _ (and_parts (is_ready i es j) _ (and_parts _ (is_ready i es j && (is_startable i es j && not (any_harmed es))) f).1).0).0 in
              clash (is_waiting (state act es)) (ap (λ k. is_waiting (state k es)) (eqb-true act j w.0) ∙ waits) (asked_started i es h r act a)
          | inr w ↦ old a w.1 t
        ]
    step (event.End j) f old a s (inl t) = old a (moved j Done refl s) t
    step (event.Fail j why) f old a s (inl t) = old a (moved j Failed refl s) t
    step (event.Cancel j why) f old a s (inl t) = old a (moved j Cancelled refl s) t
    step e f old a s (inl t) = old a s t
    step e f old a s (inr t) = absurd (true≢false (sym t))

-- ---- where the act of a request stands

abbrev IsOn : ActState → Type 0
IsOn s = (s ≡ Active) ⊎ (s ≡ Cancelled)

abbrev IsOther : Option Name → Name → Type 0
IsOther now p = (q : Name) × (now ≡ Some q) × (same_name p q ≡ false)

-- the act of a request that holds a performer is active or cancelled, or another was confirmed
pub standing : (i : Input) (es : List Entry) → IsHistory i es → (r act : ℕ) (p : Name) → is_held r p es ≡ true → act_of r es ≡ Some act
    → ((state act es ≡ Active) ⊎ (state act es ≡ Cancelled)) ⊎ ((q : Name) × (confirmed r es ≡ Some q) × (same_name p q ≡ false))
standing i _ nothing r act p o a = none_not_some act a
standing i _ (block es e h legal own) r act p o a =
    let w = step e.what (fits-legal i es e.what legal) (standing i es h r act p) (sym (held-block i es e r p) ∙ o) (sym (act-block i es e r) ∙ a) in
    elim w [
      | inl on ↦ inl (elim (state-block i es e act) [ inl s ↦ elim on [ inl x ↦ inl (s ∙ x) | inr x ↦ inr (s ∙ x) ] | inr s ↦ inr s ])
      | inr c ↦ inr (c.0, confirmed-block i es e r ∙ c.1, c.2)
    ]
  where
    kept_hand : (s : ℕ) (q : Name) → unwrap_or (only_if ((r == s) && same_name p q) false) (is_held r p es) ≡ true → is_held r p es ≡ true
    kept_hand s q o = elim (picked ((r == s) && same_name p q) false (is_held r p es) true o) [ inl w ↦ absurd (true≢false (sym w.1)) | inr w ↦ w.1 ]

    moved : (j : ℕ) (to : ActState) → IsOn (state act es) ⊎ IsOther (confirmed r es) p → ((act == j) ≡ true → IsOn to ⊎ IsOther (confirmed r es) p)
        → IsOn (unwrap_or (only_if (act == j) to) (state act es)) ⊎ IsOther (confirmed r es) p
    moved j to old new =
        by_test (act == j)
        (λ t. elim (new t) [ inl on ↦ inl (subst IsOn (sym (pick_yes (act == j) to (state act es) t)) on) | inr c ↦ inr c ])
        (λ t. elim old [ inl on ↦ inl (subst IsOn (sym (pick_no (act == j) to (state act es) t)) on) | inr c ↦ inr c ])

    -- the work on the act was finished, by another
    by_other : (b : Bool) (j : ℕ) → is_held r p es ≡ true → act_of r es ≡ Some act → (act == j) ≡ true → is_finished b es j ≡ true → IsOther (confirmed r es) p
    by_other b j g a t f =
        let w = held_offering i es h r p g in
        let last = last_one i es h r act a (held_served i es h r p g) in
        let some = finish_some (finish_of r es) refl (sym (ap (λ o. option_map_or (λ x. same_flag b x) (option_and_then (λ r. finish_of r es) o) false) (ap (λ k. request_of k es) (sym (eqb-true act j t)) ∙ last)) ∙ f) in
        let u = finish_says i es h r some.0 some.1 in
        (u.0, u.1, by_test (same_name p u.0) (λ t. clash (is_through r p es) (ap (λ n. is_through r n es) (same_name-is p u.0 t) ∙ u.2) w.2) (λ t. t))
      where
        finish_some : (o : Option Bool) → finish_of r es ≡ o → option_map_or (λ x. same_flag b x) o false ≡ true → (x : Bool) × (finish_of r es ≡ Some x)
        finish_some None e f = absurd (cc)
        finish_some (Some x) e f = (x, e)

    -- all passed, but it didn't
    by_none : (j : ℕ) → is_held r p es ≡ true → act_of r es ≡ Some act → (act == j) ≡ true → option_map_or (λ r. is_passed i r es && not (was_busy i r es)) (request_of j es) false ≡ true → ⊥
    by_none j g a t f =
        let w = held_offering i es h r p g in
        let last = last_one i es h r act a (held_served i es h r p g) in
        let passed : is_passed i r es ≡ true =
        (and_parts (is_passed i r es) (not (was_busy i r es)) (sym (ap (λ o. option_map_or (λ r. is_passed i r es && not (was_busy i r es)) o false) (ap (λ k. request_of k es) (sym (eqb-true act j t)) ∙ last)) ∙ f)).0 in
        let all = (and_parts (is_open r es) (list_all (λ p. is_some (pass_of r p.name es)) (performers i)) passed).1 in
        let m = offered_member i es h r p w.0 in
        not_both (pass_of r p es) (λ why. offered_unpassed i es h r p why w.0) (ap (λ n. is_some (pass_of r n es)) m.2 ∙ all_in (λ p. is_some (pass_of r p.name es)) (performers i) all m.0 m.1)
      where
        not_both : (o : Option PassWhy) → ((why : PassWhy) → o ≡ Some why → ⊥) → is_some o ≡ true → ⊥
        not_both None n e = absurd (cc)
        not_both (Some why) n e = n why refl

    by_fail : (j : ℕ) (why : FailWhy) → is_held r p es ≡ true → act_of r es ≡ Some act → (act == j) ≡ true → row_allows i es (event.Fail j why) ≡ true → IsOther (confirmed r es) p
    by_fail j fail.NoPerformer g a t f = absurd (by_none j g a t (and_parts (is_act_active es j) _ f).1)
    by_fail j fail.Script g a t f = by_other false j g a t (and_parts (is_act_active es j) _ f).1
    by_fail j fail.AtEnd g a t f = by_other true j g a t (and_parts (is_finished true es j) _ (and_parts (is_act_active es j) _ f).1).0
    by_fail j fail.Effect g a t f = by_other true j g a t (and_parts (is_finished true es j) _ (and_parts (is_act_active es j) _ f).1).0

    step : (e : Event) → row_allows i es e ≡ true → (is_held r p es ≡ true → act_of r es ≡ Some act → IsOn (state act es) ⊎ IsOther (confirmed r es) p)
        → unwrap_or (says_held r p e) (is_held r p es) ≡ true → unwrap_or (says_act r e) (act_of r es) ≡ Some act
        → IsOn (unwrap_or (says_state act e) (state act es)) ⊎ IsOther (unwrap_or (says_confirm r e) (confirmed r es)) p
    step (event.Run for acts) f old o a = none_not_some act a
    step (event.Replan acts) f old o a = none_not_some act a
    step (event.Request s j) f old o a =
        let n = eqb-true s (requests es) (and_parts (s == requests es) _ f).0 in
        let l = offered_numbered i es h r p (held_offering i es h r p o).0 in
        elim (picked (r == s) (Some j) (act_of r es) (Some act) a) [
          | inl w ↦ let m = eqb-true r s w.0 in absurd (omega (arith, l, m, n))
          | inr w ↦ old o w.1
        ]
    step (event.Offer s q) f old o a =
        elim (picked ((r == s) && same_name p q) true (is_held r p es) true o) [
          | inl w ↦
              let u = opens_for s es (offer_says i es s q f).opened in
              let same : u.0 ≡ act = some_same u.0 act (sym u.1 ∙ ap (λ t. act_of t es) (sym (at_one r s p q w.0).0) ∙ a) in
              inl (inl (ap (λ k. state k es) (sym same) ∙ u.2))
          | inr w ↦ old w.1 a
        ]
    step (event.Reject s q) f old o a = old (kept_hand s q o) a
    step (event.Finish s q ok) f old o a = old (kept_hand s q o) a
    step (event.Stopped s q) f old o a = old (kept_hand s q o) a
    step (event.Confirm s q) f old o a =
        elim (old o a) [
          | inl on ↦ inl on
          | inr c ↦
              by_test (r == s)
              (λ t. let u = opens_for s es (and_parts (is_open s es) _ f).0 in none_some (confirmed s es) c.0 (ap (λ t. confirmed t es) (sym (eqb-true r s t)) ∙ c.1) u.3)
              (λ t. inr (c.0, pick_no (r == s) (Some q) (confirmed r es) t ∙ c.1, c.2))
        ]
    step (event.Start j) f old o a = moved j Active (old o a) (λ t. inl (inl refl))
    step (event.End j) f old o a = moved j Done (old o a) (λ t. inr (by_other true j o a t (and_parts (is_finished true es j) _ (and_parts (is_act_active es j) _ f).1).0))
    step (event.Fail j why) f old o a = moved j Failed (old o a) (λ t. inr (by_fail j why o a t f))
    step (event.Cancel j why) f old o a = moved j Cancelled (old o a) (λ t. inl (inr refl))
    step e f old o a = old o a

-- ---- units

-- who hasn't begun has done no unit
pub unbegun : (i : Input) (es : List Entry) → IsHistory i es → (r : ℕ) (p : Name) → has_begun r p es ≡ false → units_done r p es ≡ 0
unbegun i _ nothing r p o = refl
unbegun i _ (block es e h legal own) r p o =
    units-block i es e r p ∙ step e.what (fits-legal i es e.what legal) (unbegun i es h r p) (or_parts (has_begun r p es) (is_begin r p e.what) (sym (begun-block i es e r p) ∙ o)).0
  where
    worked : (s : ℕ) (q : Name) (test : Option Task → Bool) → test None ≡ false → test (next_unit i s q es) ≡ true → has_begun r p es ≡ false → units_done r p es ≡ 0
        → (if ((r == s) && same_name p q) then units_done r p es + 1 else units_done r p es) ≡ 0
    worked s q test none f n old =
        by_test ((r == s) && same_name p q)
        (λ t.
        let same = at_one r s p q t in
        let works = (unit_works i es s q test none f).0 in
        clash (has_begun r p es) (working_begun i es h r p (ap (λ t. is_working t p es) same.0 ∙ ap (λ n. is_working s n es) same.1 ∙ works)) n)
        (λ t. ap (λ b. if b then units_done r p es + 1 else units_done r p es) t ∙ old)

    step : (e : Event) → row_allows i es e ≡ true → (has_begun r p es ≡ false → units_done r p es ≡ 0) → has_begun r p es ≡ false → (if is_unit r p e then units_done r p es + 1 else units_done r p es) ≡ 0
    step (event.Edit (by.Performer s q) edit) f old n = worked s q (λ u. is_edit edit (option_and_then as_edit u)) refl (and_parts (is_edit edit (next_edit i s q es)) _ f).0 n (old n)
    step (event.Refused (by.Performer s q) why) f old n =
        worked s q (λ u. is_cause why (option_and_then (λ edit. edit_refusal (edited i.domain (know i es) edit)) (option_and_then as_edit u))) refl f n (old n)
    step (event.UnitWork s q) f old n = worked s q is_work refl f n (old n)
    step (event.Feedback s q percent text) f old n = worked s q (is_feedback percent text) refl f n (old n)
    step (event.Finish s q ok) f old n = worked s q (is_finish ok) refl f n (old n)
    step e f old n = old n
