-- What histories keep of who was rejected, who works and who is through.
use Rattle.std.proofs.Common.{◌≡◌, ℕ, ◌<◌, ◌==◌, ◌&&◌, ◌||◌, Bool, true, false, not, Option, Some, None, is_some, List, option_and_then, if◌then◌else◌, refl, arith, ap, sym, ◌∙◌, subst, inl, inr, ◌⊎◌}
use Rattle.std.specs.Option.{option_map_or, unwrap_or}
use Rattle.std.proofs.lemmas.Bool.{cases_Bool, eqb-true, not-true, or_cases, or_left, or_parts, or_right, true≢false, and_parts}
use Rattle.ps_world.specs.Names.{same_name}
use Rattle.ps_world.specs.declared.names.Name.{Name}
use Rattle.ps_world.proofs.SameTexts.{name_itself}
use Rattle.ps_world.proofs.Optionals.{none_not_some}
use Rattle.ps_action.specs.declared.states.ActState.{ActState}
use Rattle.ps_action.specs.declared.states.ActState.TheVariants.{Waiting, Active, Done, Failed, Cancelled}
use Rattle.ps_machine.specs.declared.inputs.Input.{Input}
use Rattle.ps_machine.specs.declared.members.Unit.{Unit as Task}
use Rattle.ps_machine.specs.declared.journal.FailWhy.TheVariants as fail
use Rattle.ps_machine.specs.declared.journal.Event.{Event}
use Rattle.ps_machine.specs.declared.journal.Event.TheVariants as event
use Rattle.ps_machine.specs.declared.journal.Entry.{Entry}
use Rattle.ps_rules.specs.Reading.{only_if}
use Rattle.ps_rules.specs.Runs.{is_active, is_cancelled, is_waiting, says_state, state}
use Rattle.ps_rules.specs.Auctions.{act_of, confirmed, has_begun, has_offered, is_begin, is_for_active, is_for_cancelled, is_last, is_offer, is_open, is_reject, is_rejected, is_through, is_working, requests, says_act, says_confirm, says_working}
use Rattle.ps_rules.specs.Members.{next_unit, performer_of, unit_of}
use Rattle.ps_rules.specs.Settled.{any_harmed, is_ready, is_startable}
use Rattle.ps_rules.specs.Legal.{is_act_active, is_confirmed, is_finish, is_place, row_allows}
use Rattle.ps_rules.specs.History.{IsHistory}
use Rattle.ps_rules.specs.History.IsHistory.{nothing, block}
use Rattle.ps_rules.proofs.Kept.{confirmed_by, fits-legal}
use Rattle.ps_rules.proofs.Failing.{fail_active}
use Rattle.ps_progress_laws.proofs.Blocks.{act-block, begun-block, block_of, cancelled-block, confirmed-block, held-block, offered-block, rejected-block, through-block, working-block}
use Rattle.ps_progress_laws.proofs.Held.{is_held, says_held}
use Rattle.ps_progress_laws.proofs.Offers.{confirmed_offered, offered_numbered, opens_for}
use Rattle.ps_progress_laws.proofs.Picking.{at_one, clash, kept, none_is, none_some, pick_no, pick_yes, picked, stays}

-- who does a unit works, for an active act
pub unit_works : (i : Input) (es : List Entry) (s : ℕ) (q : Name) (test : Option Task → Bool) → test None ≡ false → test (next_unit i s q es) ≡ true
    → (is_working s q es ≡ true) × (is_for_active s es ≡ true)
unit_works i es s q test none h =
    by_tests (is_working s q es) (is_for_active s es) (option_and_then (λ performer. unit_of performer s q es) (performer_of i q)) h
  where
    by_tests : (a b : Bool) (x : Option Task) → test (if a && b then x else None) ≡ true → (a ≡ true) × (b ≡ true)
    by_tests true true x h = (refl, refl)
    by_tests true false x h = clash (test None) h none
    by_tests false b x h = clash (test None) h none

-- who finishes works
pub finish_works : (i : Input) (es : List Entry) (s : ℕ) (q : Name) (ok : Bool) → row_allows i es (event.Finish s q ok) ≡ true → is_working s q es ≡ true
finish_works i es s q ok f = (unit_works i es s q (is_finish ok) refl f).0

-- what is read of one request and one performer is the same of another that are the same
pub moved : {A : Type 0} (of : ℕ → Name → A) (r s : ℕ) (p q : Name) → (r ≡ s) × (p ≡ q) → of r p ≡ of s q
moved of r s p q same = ap (λ t. of t p) same.0 ∙ ap (λ n. of s n) same.1

-- who was confirmed, in other words
pub confirms : (r : ℕ) (p : Name) (es : List Entry) → confirmed r es ≡ Some p → is_confirmed r p es ≡ true
confirms r p es c = ap (λ o. option_map_or (same_name p) o false) c ∙ name_itself p

-- ---- one performer

-- who was rejected offered
pub rejected_offered : (i : Input) (es : List Entry) → IsHistory i es → (r : ℕ) (p : Name) → is_rejected r p es ≡ true → has_offered r p es ≡ true
rejected_offered i _ nothing r p o = absurd (cc)
rejected_offered i _ (block es e h legal own) r p o =
    offered-block i es e r p
    ∙ step e.what (fits-legal i es e.what legal) (rejected_offered i es h r p) (or_cases (is_rejected r p es) (is_reject r p e.what) (sym (rejected-block i es e r p) ∙ o))
  where
    step : (e : Event) → row_allows i es e ≡ true → (is_rejected r p es ≡ true → has_offered r p es ≡ true) → (is_rejected r p es ≡ true) ⊎ (is_reject r p e ≡ true) → (has_offered r p es || is_offer r p e) ≡ true
    step e f old (inl o) = or_left (has_offered r p es) (is_offer r p e) (old o)
    step (event.Reject s q) f old (inr o) =
        or_left (has_offered r p es) false (moved (λ t n. has_offered t n es) r s p q (at_one r s p q o) ∙ (and_parts (has_offered s q es) _ f).0)
    step e f old (inr o) = absurd (true≢false (sym o))

-- a confirmation stays
confirmed_on : (i : Input) (es : List Entry) (e : Event) → row_allows i es e ≡ true → (r : ℕ) (p : Name) → confirmed r es ≡ Some p → unwrap_or (says_confirm r e) (confirmed r es) ≡ Some p
confirmed_on i es (event.Confirm s q) f r p c =
    elim (cases_Bool (r == s)) [
      | inl t ↦ let o = opens_for s es (and_parts (is_open s es) _ f).0 in none_some (confirmed s es) p (ap (λ t. confirmed t es) (sym (eqb-true r s t)) ∙ c) o.3
      | inr t ↦ pick_no (r == s) (Some q) (confirmed r es) t ∙ c
    ]
confirmed_on i es e f r p c = c

-- who works was confirmed
pub working_confirmed : (i : Input) (es : List Entry) → IsHistory i es → (r : ℕ) (p : Name) → is_working r p es ≡ true → confirmed r es ≡ Some p
working_confirmed i _ nothing r p o = absurd (cc)
working_confirmed i _ (block es e h legal own) r p o =
    let f = fits-legal i es e.what legal in
    confirmed-block i es e r ∙ confirmed_on i es e.what f r p (step e.what f (working_confirmed i es h r p) (sym (working-block i es e r p) ∙ o))
  where
    step : (e : Event) → row_allows i es e ≡ true → (is_working r p es ≡ true → confirmed r es ≡ Some p) → unwrap_or (says_working r p e) (is_working r p es) ≡ true → confirmed r es ≡ Some p
    step (event.Begin s q) f old o =
        elim (picked ((r == s) && same_name p q) true (is_working r p es) true o) [
          | inl w ↦ let same = at_one r s p q w.0 in ap (λ t. confirmed t es) same.0 ∙ confirmed_by q (confirmed s es) (and_parts (is_confirmed s q es) _ f).0 ∙ ap Some (sym same.1)
          | inr w ↦ old w.1
        ]
    step (event.Finish s q ok) f old o = old (kept ((r == s) && same_name p q) (is_working r p es) o).1
    step (event.Stopped s q) f old o = old (kept ((r == s) && same_name p q) (is_working r p es) o).1
    step e f old o = old o

-- who is through was confirmed
pub through_confirmed : (i : Input) (es : List Entry) → IsHistory i es → (r : ℕ) (p : Name) → is_through r p es ≡ true → confirmed r es ≡ Some p
through_confirmed i _ nothing r p o = absurd (cc)
through_confirmed i _ (block es e h legal own) r p o =
    let f = fits-legal i es e.what legal in
    confirmed-block i es e r
    ∙ confirmed_on i es e.what f r p (step e.what f (through_confirmed i es h r p) (or_cases (is_through r p es) (is_last r p e.what) (sym (through-block i es e r p) ∙ o)))
  where
    step : (e : Event) → row_allows i es e ≡ true → (is_through r p es ≡ true → confirmed r es ≡ Some p) → (is_through r p es ≡ true) ⊎ (is_last r p e ≡ true) → confirmed r es ≡ Some p
    step e f old (inl o) = old o
    step (event.Finish s q ok) f old (inr o) =
        working_confirmed i es h r p (moved (λ t n. is_working t n es) r s p q (at_one r s p q o) ∙ finish_works i es s q ok f)
    step (event.Stopped s q) f old (inr o) = let same = at_one r s p q o in ap (λ t. confirmed t es) same.0 ∙ confirmed_by q (confirmed s es) (and_parts (is_confirmed s q es) _ f).0 ∙ ap Some (sym same.1)
    step e f old (inr o) = absurd (true≢false (sym o))

-- who works has begun
pub working_begun : (i : Input) (es : List Entry) → IsHistory i es → (r : ℕ) (p : Name) → is_working r p es ≡ true → has_begun r p es ≡ true
working_begun i _ nothing r p o = absurd (cc)
working_begun i _ (block es e h legal own) r p o = begun-block i es e r p ∙ step e.what (working_begun i es h r p) (sym (working-block i es e r p) ∙ o)
  where
    step : (e : Event) → (is_working r p es ≡ true → has_begun r p es ≡ true) → unwrap_or (says_working r p e) (is_working r p es) ≡ true → (has_begun r p es || is_begin r p e) ≡ true
    step (event.Begin s q) old o =
        elim (picked ((r == s) && same_name p q) true (is_working r p es) true o) [
          | inl w ↦ or_right (has_begun r p es) ((r == s) && same_name p q) w.0
          | inr w ↦ or_left (has_begun r p es) ((r == s) && same_name p q) (old w.1)
        ]
    step (event.Finish s q ok) old o = or_left (has_begun r p es) false (old (kept ((r == s) && same_name p q) (is_working r p es) o).1)
    step (event.Stopped s q) old o = or_left (has_begun r p es) false (old (kept ((r == s) && same_name p q) (is_working r p es) o).1)
    step e old o = or_left (has_begun r p es) (is_begin r p e) (old o)

-- who began and isn't through works
pub begun_works : (i : Input) (es : List Entry) → IsHistory i es → (r : ℕ) (p : Name) → has_begun r p es ≡ true → is_through r p es ≡ false → is_working r p es ≡ true
begun_works i _ nothing r p o t = absurd (cc)
begun_works i _ (block es e h legal own) r p o t =
    working-block i es e r p ∙ step e.what (begun_works i es h r p) (or_cases (has_begun r p es) (is_begin r p e.what) (sym (begun-block i es e r p) ∙ o)) (or_parts (is_through r p es) (is_last r p e.what) (sym (through-block i es e r p) ∙ t))
  where
    step : (e : Event) → (has_begun r p es ≡ true → is_through r p es ≡ false → is_working r p es ≡ true) → (has_begun r p es ≡ true) ⊎ (is_begin r p e ≡ true) → (is_through r p es ≡ false) × (is_last r p e ≡ false)
        → unwrap_or (says_working r p e) (is_working r p es) ≡ true
    step (event.Begin s q) old (inl o) t = stays ((r == s) && same_name p q) (is_working r p es) (old o t.0)
    step (event.Begin s q) old (inr o) t = pick_yes ((r == s) && same_name p q) true (is_working r p es) o
    step (event.Finish s q ok) old (inl o) t = pick_no ((r == s) && same_name p q) false (is_working r p es) t.1 ∙ old o t.0
    step (event.Stopped s q) old (inl o) t = pick_no ((r == s) && same_name p q) false (is_working r p es) t.1 ∙ old o t.0
    step e old (inl o) t = old o t.0
    step e old (inr o) t = absurd (true≢false (sym o))

-- who offered, wasn't rejected and isn't through is held
pub offered_held : (i : Input) (es : List Entry) → IsHistory i es → (r : ℕ) (p : Name) → has_offered r p es ≡ true → is_rejected r p es ≡ false → is_through r p es ≡ false → is_held r p es ≡ true
offered_held i _ nothing r p o j t = absurd (cc)
offered_held i _ (block es e h legal own) r p o j t =
    held-block i es e r p
    ∙ step e.what (offered_held i es h r p) (or_cases (has_offered r p es) (is_offer r p e.what) (sym (offered-block i es e r p) ∙ o))
    (or_parts (is_rejected r p es) (is_reject r p e.what) (sym (rejected-block i es e r p) ∙ j)) (or_parts (is_through r p es) (is_last r p e.what) (sym (through-block i es e r p) ∙ t))
  where
    step : (e : Event) → (has_offered r p es ≡ true → is_rejected r p es ≡ false → is_through r p es ≡ false → is_held r p es ≡ true) → (has_offered r p es ≡ true) ⊎ (is_offer r p e ≡ true)
        → (is_rejected r p es ≡ false) × (is_reject r p e ≡ false) → (is_through r p es ≡ false) × (is_last r p e ≡ false) → unwrap_or (says_held r p e) (is_held r p es) ≡ true
    step (event.Offer s q) old (inl o) j t = stays ((r == s) && same_name p q) (is_held r p es) (old o j.0 t.0)
    step (event.Offer s q) old (inr o) j t = pick_yes ((r == s) && same_name p q) true (is_held r p es) o
    step (event.Reject s q) old (inl o) j t = pick_no ((r == s) && same_name p q) false (is_held r p es) j.1 ∙ old o j.0 t.0
    step (event.Finish s q ok) old (inl o) j t = pick_no ((r == s) && same_name p q) false (is_held r p es) t.1 ∙ old o j.0 t.0
    step (event.Stopped s q) old (inl o) j t = pick_no ((r == s) && same_name p q) false (is_held r p es) t.1 ∙ old o j.0 t.0
    step e old (inl o) j t = old o j.0 t.0
    step e old (inr o) j t = absurd (true≢false (sym o))

-- ---- closed requests

-- the act of a request was cancelled, if it is of the present plan
abbrev pub IsClosed : ℕ → List Entry → Type 0
IsClosed r es = (act : ℕ) → act_of r es ≡ Some act → state act es ≡ Cancelled

-- a cancelled act isn't active
pub active_not : (s : ActState) → s ≡ Cancelled → is_active s ≡ true → ⊥
active_not s e a = true≢false (sym a ∙ ap is_active e)

waiting_not : (s : ActState) → s ≡ Cancelled → is_waiting s ≡ true → ⊥
waiting_not s e a = true≢false (sym a ∙ ap is_waiting e)

-- a closed request stays closed
closed_on : (i : Input) (es : List Entry) (e : Entry) → row_allows i es e.what ≡ true → (r : ℕ) → r < requests es → IsClosed r es → IsClosed r (block_of i es e)
closed_on i es e f r l c act a = cancelled-block i es e act (step e.what f (sym (act-block i es e r) ∙ a))
  where
    other : (j : ℕ) (s : ActState) → act_of r es ≡ Some act → (state j es ≡ Cancelled → ⊥) → unwrap_or (only_if (act == j) s) (state act es) ≡ Cancelled
    other j s a not_j =
        elim (cases_Bool (act == j)) [
          | inl t ↦ absurd (not_j (ap (λ k. state k es) (sym (eqb-true act j t)) ∙ c act a))
          | inr t ↦ pick_no (act == j) s (state act es) t ∙ c act a
        ]

    step : (e : Event) → row_allows i es e ≡ true → unwrap_or (says_act r e) (act_of r es) ≡ Some act → unwrap_or (says_state act e) (state act es) ≡ Cancelled
    step (event.Run for acts) f a = none_not_some act a
    step (event.Replan acts) f a = none_not_some act a
    step (event.Request s j) f a =
        let n = eqb-true s (requests es) (and_parts (s == requests es) _ f).0 in
        elim (picked (r == s) (Some j) (act_of r es) (Some act) a) [
          | inl w ↦ let m = eqb-true r s w.0 in absurd (omega (arith, l, m, n))
          | inr w ↦ c act w.1
        ]
    step (event.Start j) f a =
        let ready = (and_parts (is_ready i es j) (is_startable i es j && not (any_harmed es)) (and_parts (is_place es j) _ f).1).0 in
        other j Active a (λ s. waiting_not (state j es) s (and_parts (is_waiting (state j es)) _ ready).0)
    step (event.End j) f a = other j Done a (λ s. active_not (state j es) s (and_parts (is_act_active es j) _ f).0)
    step (event.Fail j why) f a = other j Failed a (λ s. active_not (state j es) s (fail_active i es j why f))
    step (event.Cancel j why) f a = absurd (true≢false (sym f))
    step e f a = c act a

for_cancelled : (r : ℕ) (es : List Entry) → is_for_cancelled r es ≡ true → IsClosed r es
for_cancelled r es h act a = is_so (state act es) (sym (ap (λ o. option_map_or (λ j. is_cancelled (state j es)) o false) a) ∙ h)
  where
    is_so : (s : ActState) → is_cancelled s ≡ true → s ≡ Cancelled
    is_so Cancelled e = refl
    is_so Waiting e = absurd (cc)
    is_so Active e = absurd (cc)
    is_so Done e = absurd (cc)
    is_so Failed e = absurd (cc)

-- where a performer was rejected, another is confirmed or none will be
pub rejected_closed : (i : Input) (es : List Entry) → IsHistory i es → (r : ℕ) (p : Name) → is_rejected r p es ≡ true
    → (confirmed r es ≡ Some p → ⊥) × ((is_some (confirmed r es) ≡ true) ⊎ IsClosed r es)
rejected_closed i _ nothing r p o = absurd (cc)
rejected_closed i _ (block es e h legal own) r p o =
    let f = fits-legal i es e.what legal in
    let w = step e.what f (rejected_closed i es h r p) (or_cases (is_rejected r p es) (is_reject r p e.what) (sym (rejected-block i es e r p) ∙ o)) in (
      λ c. w.0 (sym (confirmed-block i es e r) ∙ c),
      elim w.1 [
        | inl s ↦ inl (ap is_some (confirmed-block i es e r) ∙ s)
        | inr c ↦ inr (closed_on i es e f r c.0 c.1)
      ],
    )
  where
    step : (e : Event) → row_allows i es e ≡ true → (is_rejected r p es ≡ true → (confirmed r es ≡ Some p → ⊥) × ((is_some (confirmed r es) ≡ true) ⊎ IsClosed r es))
        → (is_rejected r p es ≡ true) ⊎ (is_reject r p e ≡ true)
        → (unwrap_or (says_confirm r e) (confirmed r es) ≡ Some p → ⊥) × ((is_some (unwrap_or (says_confirm r e) (confirmed r es)) ≡ true) ⊎ ((r < requests es) × IsClosed r es))
    step (event.Confirm s q) f old (inl o) =
        let w = old o in
        let l = offered_numbered i es h r p (rejected_offered i es h r p o) in
        elim (cases_Bool (r == s)) [
          | inl t ↦
              let u = opens_for s es (and_parts (is_open s es) _ f).0 in
              let same = eqb-true r s t in
              elim w.1 [
                | inl c ↦ clash (is_some (confirmed r es)) c (ap (λ t. is_some (confirmed t es)) same ∙ none_is (confirmed s es) u.3)
                | inr c ↦ absurd (active_not (state u.0 es) (c u.0 (ap (λ t. act_of t es) same ∙ u.1)) (ap is_active u.2))
              ]
          | inr t ↦
              let e = pick_no (r == s) (Some q) (confirmed r es) t in
              (λ c. w.0 (sym e ∙ c), elim w.1 [ inl c ↦ inl (ap is_some e ∙ c) | inr c ↦ inr (l, c) ])
        ]
    step (event.Reject s q) f old (inr o) =
        let same = at_one r s p q o in
        let w = and_parts (has_offered s q es) _ f in
        let u = and_parts (not (is_rejected s q es)) _ w.1 in
        let v = and_parts (not (is_confirmed s q es)) (is_some (confirmed s es) || is_for_cancelled s es) u.1 in
        let l = offered_numbered i es h s q w.0 in (
          λ c. clash (is_confirmed s q es) (confirms s q es (ap (λ t. confirmed t es) (sym same.0) ∙ c ∙ ap Some same.1)) (not-true (is_confirmed s q es) v.0),
          elim (or_cases (is_some (confirmed s es)) (is_for_cancelled s es) v.1) [
            | inl c ↦ inl (ap (λ t. is_some (confirmed t es)) same.0 ∙ c)
            | inr c ↦ inr (subst (λ n. n < requests es) (sym same.0) l, subst (λ n. IsClosed n es) (sym same.0) (for_cancelled s es c))
          ],
        )
    step e f old (inl o) =
        let w = old o in
        let l = offered_numbered i es h r p (rejected_offered i es h r p o) in
        (w.0, elim w.1 [ inl c ↦ inl c | inr c ↦ inr (l, c) ])
    step e f old (inr o) = absurd (true≢false (sym o))

-- who is through had begun, or stopped on a cancelled act
pub through_closed : (i : Input) (es : List Entry) → IsHistory i es → (r : ℕ) (p : Name) → is_through r p es ≡ true → (has_begun r p es ≡ true) ⊎ IsClosed r es
through_closed i _ nothing r p o = absurd (cc)
through_closed i _ (block es e h legal own) r p o =
    let f = fits-legal i es e.what legal in
    elim (step e.what f (through_closed i es h r p) (or_cases (is_through r p es) (is_last r p e.what) (sym (through-block i es e r p) ∙ o))) [
      | inl s ↦ inl (begun-block i es e r p ∙ or_left (has_begun r p es) (is_begin r p e.what) s)
      | inr c ↦ inr (closed_on i es e f r c.0 c.1)
    ]
  where
    step : (e : Event) → row_allows i es e ≡ true → (is_through r p es ≡ true → (has_begun r p es ≡ true) ⊎ IsClosed r es)
        → (is_through r p es ≡ true) ⊎ (is_last r p e ≡ true) → (has_begun r p es ≡ true) ⊎ ((r < requests es) × IsClosed r es)
    step e f old (inl o) =
        let l = offered_numbered i es h r p (confirmed_offered i es h r p (through_confirmed i es h r p o)) in
        elim (old o) [ inl b ↦ inl b | inr c ↦ inr (l, c) ]
    step (event.Finish s q ok) f old (inr o) =
        inl (working_begun i es h r p (moved (λ t n. is_working t n es) r s p q (at_one r s p q o) ∙ finish_works i es s q ok f))
    step (event.Stopped s q) f old (inr o) =
        let same = at_one r s p q o in
        let w = and_parts (is_confirmed s q es) _ f in
        let u = and_parts (not (is_through s q es)) (is_for_cancelled s es) w.1 in
        let l = offered_numbered i es h s q (confirmed_offered i es h s q (confirmed_by q (confirmed s es) w.0)) in
        inr (subst (λ n. n < requests es) (sym same.0) l, subst (λ n. IsClosed n es) (sym same.0) (for_cancelled s es u.1))
    step e f old (inr o) = absurd (true≢false (sym o))
