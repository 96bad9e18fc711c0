-- Legal events speak of requests that are there.
use Rattle.std.proofs.Common.{◌≡◌, ℕ, ◌+◌, ◌≤◌, ◌==◌, ◌&&◌, ◌||◌, nat_lt, Bool, true, false, not, Option, Some, None, is_none, is_some, is_ok, List, ◌∷◌, ◌++◌, if◌then◌else◌, refl, arith, ap, sym, subst, ◌∙◌}
use Rattle.std.specs.Option.{unwrap_or, option_map_or, option_and_then}
use Rattle.std.proofs.lemmas.Bool.{true≢false, ltb-false, and_parts}
use Rattle.std.proofs.lemmas.Bool.Decides.{nat_tests}
use Rattle.ps_world.specs.Names.{same_name}
use Rattle.ps_world.specs.Knowledge.{edited}
use Rattle.ps_world.specs.declared.names.Name.{Name}
use Rattle.ps_machine.specs.declared.inputs.Input.{Input}
use Rattle.ps_machine.specs.declared.members.Unit.{Unit as Task}
use Rattle.ps_machine.specs.declared.members.Performer.{Performer}
use Rattle.ps_machine.specs.declared.journal.By.TheVariants as by
use Rattle.ps_machine.specs.declared.journal.Event.{Event}
use Rattle.ps_machine.specs.declared.journal.Event.TheVariants as event
use Rattle.ps_machine.specs.declared.journal.Entry.{Entry}
use Rattle.ps_rules.specs.Reading.{only_if}
use Rattle.ps_machine.specs.declared.journal.PassWhy.{PassWhy}
use Rattle.ps_machine.specs.declared.journal.PassWhy.TheVariants as pass
use Rattle.ps_rules.specs.Auctions.{act_of, confirmed, first_offer, has_answered, has_begun, has_offered, is_engaged, is_for_active, is_for_cancelled, is_of_run, is_open, is_rejected, is_through, is_unserved, is_working, is_offer, is_request, offers, request_of, requests, says_act, says_confirm, says_of_run, says_working}
use Rattle.ps_rules.specs.Runs.{is_active, state}
use Rattle.ps_rules.specs.Known.{know}
use Rattle.ps_rules.specs.Lines.{edit_refusal}
use Rattle.ps_rules.specs.Members.{as_edit, matches_request, next_edit, next_unit, performer_of, unit_of}
use Rattle.ps_rules.specs.History.{forced, IsHistory}
use Rattle.ps_rules.specs.History.IsHistory.{nothing, block}
use Rattle.ps_rules.proofs.Pushed.{read-block}
use Rattle.std.proofs.Math.Bool.{or-false}
use Rattle.ps_rules.proofs.Kept.{fits-legal, works-where}
use Rattle.ps_rules.specs.Laws.{LegalEventsSpeak, speaks_of}
use Rattle.ps_rules.specs.Legal.{is_act_active, is_cause, is_confirmed, is_edit, is_feedback, is_finish, is_pass, is_passed, is_work, may_be_put_up, pass_reason, row_allows, was_busy}

-- what is told of a request that isn't there
pub record IsUntold (es : List Entry) (r : ℕ) : Type 0 where
  pub act : act_of r es ≡ None
  pub run : is_of_run r es ≡ false
  pub confirmed : confirmed r es ≡ None
  pub offered : (p : Name) → has_offered r p es ≡ false
  pub working : (p : Name) → is_working r p es ≡ false

abbrev AreUntold : List Entry → Type 0
AreUntold es = (r : ℕ) → requests es ≤ r → IsUntold es r

-- a number of which something is told is one of a request
told-below : (es : List Entry) (r : ℕ) → AreUntold es → (IsUntold es r → ⊥) → nat_lt r (requests es) ≡ true
told-below es r h not_untold =
    let cases : (b : Bool) → nat_lt r (requests es) ≡ b → b ≡ true = λ b. elim b as (λ b. nat_lt r (requests es) ≡ b → b ≡ true) [
      | true ↦ λ e. refl
      | false ↦ λ e. absurd (not_untold (h r (ltb-false r (requests es) e)))
    ] in
    cases (nat_lt r (requests es)) refl

-- ---- what isn't told makes no event legal

module _ (es : List Entry) (r : ℕ) (u : IsUntold es r) where
  not-active : is_for_active r es ≡ false
  not-active = ap (λ a. option_map_or (λ i. is_active (state i es)) a false) u.act

  closed : is_open r es ≡ false
  closed = ap (λ b. b && (is_none (confirmed r es) && not (is_unserved r es))) not-active

  nobody : (p : Name) → is_confirmed r p es ≡ false
  nobody p = ap (λ c. option_map_or (same_name p) c false) u.confirmed

  no-offer : (p : Name) (o : Option Performer) → option_map_or (λ performer. not (has_answered r p es) && is_none (pass_reason performer r es)) o false ≡ true → ⊥
  no-offer p None h = absurd (cc)
  no-offer p (Some q) h =
      let late : is_none (pass_reason q r es) ≡ false = ap (λ b. is_none (if not b then Some pass.Late else (if not (matches_request q r es) then Some pass.Other else (if is_engaged q.name es then Some pass.Busy else None)))) closed in
      true≢false (sym (and_parts (not (has_answered r p es)) (is_none (pass_reason q r es)) h).1 ∙ late)

  no-pass : (p : Name) (why : PassWhy) (o : Option Performer) → option_map_or (λ performer. is_of_run r es && (not (has_answered r p es) && is_pass why (pass_reason performer r es))) o false ≡ true → ⊥
  no-pass p why None h = absurd (cc)
  no-pass p why (Some q) h = true≢false (sym (and_parts (is_of_run r es) (not (has_answered r p es) && is_pass why (pass_reason q r es)) h).0 ∙ u.run)

  no-unit : (i : Input) (p : Name) (test : Option Task → Bool) → test None ≡ false → test (next_unit i r p es) ≡ true → ⊥
  no-unit i p test none h =
      true≢false (sym (works-where test none (is_working r p es) (is_for_active r es) (option_and_then (λ performer. unit_of performer r p es) (performer_of i p)) h) ∙ u.working p)

speaks-step : (i : Input) (es : List Entry) (e : Event) → AreUntold es → row_allows i es e ≡ true → speaks_of (requests es) e ≡ true
speaks-step i es (event.Request r act) h f = (and_parts (r == requests es) (is_act_active es act && may_be_put_up i es act (request_of act es)) f).0
speaks-step i es (event.Edit (by.Performer r p) edit) h f =
    told-below es r h (λ u. no-unit es r u i p (λ t. is_edit edit (option_and_then as_edit t)) refl (and_parts (is_edit edit (next_edit i r p es)) (is_ok (edited i.domain (know i es) edit)) f).0)
speaks-step i es (event.Refused (by.Performer r p) why) h f =
    told-below es r h (λ u. no-unit es r u i p (λ t. is_cause why (option_and_then (λ edit. edit_refusal (edited i.domain (know i es) edit)) (option_and_then as_edit t))) refl f)
speaks-step i es (event.Offer r p) h f = told-below es r h (λ u. no-offer es r u p (performer_of i p) f)
speaks-step i es (event.Pass r p why) h f = told-below es r h (λ u. no-pass es r u p why (performer_of i p) f)
speaks-step i es (event.Confirm r p) h f =
    told-below es r h (λ u. true≢false (sym (and_parts (is_open r es) (option_map_or (same_name p) (first_offer (offers r es)) false) f).0 ∙ closed es r u))
speaks-step i es (event.Reject r p) h f =
    told-below es r h (λ u. true≢false (sym (and_parts (has_offered r p es) (not (is_rejected r p es) && (not (is_confirmed r p es) && (is_some (confirmed r es) || is_for_cancelled r es))) f).0 ∙ u.offered p))
speaks-step i es (event.Begin r p) h f =
    told-below es r h (λ u. true≢false (sym (and_parts (is_confirmed r p es) (not (has_begun r p es) && is_for_active r es) f).0 ∙ nobody es r u p))
speaks-step i es (event.UnitWork r p) h f = told-below es r h (λ u. no-unit es r u i p is_work refl f)
speaks-step i es (event.Feedback r p percent text) h f = told-below es r h (λ u. no-unit es r u i p (is_feedback percent text) refl f)
speaks-step i es (event.Finish r p ok) h f = told-below es r h (λ u. no-unit es r u i p (is_finish ok) refl f)
speaks-step i es (event.Unserved r) h f =
    told-below es r h (λ u. true≢false (sym (and_parts (is_open r es) _ (and_parts (is_passed i r es) (was_busy i r es) f).0).0 ∙ closed es r u))
speaks-step i es (event.Stopped r p) h f =
    told-below es r h (λ u. true≢false (sym (and_parts (is_confirmed r p es) (not (is_through r p es) && is_for_cancelled r es) f).0 ∙ nobody es r u p))
speaks-step i es e h f = refl

-- ---- nothing is told of a request before it is there

-- what is told of a request after an event
pub record IsUntoldAfter (es : List Entry) (r : ℕ) (e : Event) : Type 0 where
  pub act : unwrap_or (says_act r e) (act_of r es) ≡ None
  pub run : unwrap_or (says_of_run r e) (is_of_run r es) ≡ false
  pub confirmed : unwrap_or (says_confirm r e) (confirmed r es) ≡ None
  pub offered : (p : Name) → (has_offered r p es || is_offer r p e) ≡ false
  pub working : (p : Name) → unwrap_or (says_working r p e) (is_working r p es) ≡ false

other : (r s n : ℕ) → nat_lt s n ≡ true → n ≤ r → (r == s) ≡ false
other r s n h g = grind (arith, nat_tests)

next-other : (r s n : ℕ) → (s == n) ≡ true → n + 1 ≤ r → (r == s) ≡ false
next-other r s n h g = grind (arith, nat_tests)

same-offers : (es : List Entry) (r : ℕ) → IsUntold es r → (p : Name) → (has_offered r p es || false) ≡ false
same-offers es r u p = ap (λ b. b || false) (u.offered p)

untold-step : (es : List Entry) (r : ℕ) (e : Event) → IsUntold es r → ((s act : ℕ) → e ≡ event.Request s act → (r == s) ≡ false) → speaks_of (requests es) e ≡ true → requests es ≤ r → IsUntoldAfter es r e
untold-step es r (event.Run for acts) u new sp le = record { act = refl; run = refl; confirmed = u.confirmed; offered = same-offers es r u; working = u.working }
untold-step es r (event.Replan acts) u new sp le = record { act = refl; run = u.run; confirmed = u.confirmed; offered = same-offers es r u; working = u.working }
untold-step es r (event.Request s act) u new sp le =
    let no : (r == s) ≡ false = new s act refl in
    record {
      act = ap (λ b. unwrap_or (only_if b (Some act)) (act_of r es)) no ∙ u.act;
      run = ap (λ b. unwrap_or (only_if b true) (is_of_run r es)) no ∙ u.run;
      confirmed = u.confirmed;
      offered = same-offers es r u;
      working = u.working;
    }
untold-step es r (event.Offer s q) u new sp le =
    let no : (r == s) ≡ false = other r s (requests es) sp le in
    record { act = u.act; run = u.run; confirmed = u.confirmed; offered = λ p. ap (λ b. has_offered r p es || (b && same_name p q)) no ∙ same-offers es r u p; working = u.working }
untold-step es r (event.Confirm s q) u new sp le =
    let no : (r == s) ≡ false = other r s (requests es) sp le in
    record { act = u.act; run = u.run; confirmed = ap (λ b. unwrap_or (only_if b (Some q)) (confirmed r es)) no ∙ u.confirmed; offered = same-offers es r u; working = u.working }
untold-step es r (event.Begin s q) u new sp le =
    let no : (r == s) ≡ false = other r s (requests es) sp le in
    record { act = u.act; run = u.run; confirmed = u.confirmed; offered = same-offers es r u; working = λ p. ap (λ b. unwrap_or (only_if (b && same_name p q) true) (is_working r p es)) no ∙ u.working p }
untold-step es r (event.Finish s q ok) u new sp le =
    let no : (r == s) ≡ false = other r s (requests es) sp le in
    record { act = u.act; run = u.run; confirmed = u.confirmed; offered = same-offers es r u; working = λ p. ap (λ b. unwrap_or (only_if (b && same_name p q) false) (is_working r p es)) no ∙ u.working p }
untold-step es r (event.Stopped s q) u new sp le =
    let no : (r == s) ≡ false = other r s (requests es) sp le in
    record { act = u.act; run = u.run; confirmed = u.confirmed; offered = same-offers es r u; working = λ p. ap (λ b. unwrap_or (only_if (b && same_name p q) false) (is_working r p es)) no ∙ u.working p }
untold-step es r e u new sp le = record { act = u.act; run = u.run; confirmed = u.confirmed; offered = same-offers es r u; working = u.working }

pub fewer : (b : Bool) (n r : ℕ) → (if b then n + 1 else n) ≤ r → n ≤ r
fewer true n r h = omega (arith, h)
fewer false n r h = h

is-new : (n r s act : ℕ) (e : Event) → (if is_request e then n + 1 else n) ≤ r → speaks_of n e ≡ true → e ≡ event.Request s act → (r == s) ≡ false
is-new n r s act e le sp is =
    next-other r s n (sym (ap (speaks_of n) is) ∙ sp) (subst (λ x. (if is_request x then n + 1 else n) ≤ r) is le)

untold-block : (i : Input) (es : List Entry) (e : Entry) → AreUntold es → speaks_of (requests es) e.what ≡ true → AreUntold (es ++ e ∷ forced i es e)
untold-block i es e h sp r le =
    let more : (if is_request e.what then requests es + 1 else requests es) ≤ r = subst (λ n. n ≤ r) (read-block (λ n f. if is_request f then n + 1 else n) 0 i es e (λ a act why. refl)) le in
    let before : requests es ≤ r = fewer (is_request e.what) (requests es) r more in
    let u = untold-step es r e.what (h r before) (λ s act is. is-new (requests es) r s act e.what more sp is) sp before in
    record {
      act = read-block (λ a f. unwrap_or (says_act r f) a) None i es e (λ a act why. refl) ∙ u.act;
      run = read-block (λ a f. unwrap_or (says_of_run r f) a) false i es e (λ a act why. refl) ∙ u.run;
      confirmed = read-block (λ a f. unwrap_or (says_confirm r f) a) None i es e (λ a act why. refl) ∙ u.confirmed;
      offered = λ p. read-block (λ a f. a || is_offer r p f) false i es e (λ a act why. or-false a) ∙ u.offered p;
      working = λ p. read-block (λ a f. unwrap_or (says_working r p f) a) false i es e (λ a act why. refl) ∙ u.working p;
    }

pub untold : (i : Input) (es : List Entry) → IsHistory i es → AreUntold es
untold i _ nothing = λ r le. record { act = refl; run = refl; confirmed = refl; offered = λ p. refl; working = λ p. refl }
untold i _ (block es e h legal hand) = untold-block i es e (untold i es h) (speaks-step i es e.what (untold i es h) (fits-legal i es e.what legal))

pub legal_events_speak : LegalEventsSpeak
legal_events_speak i es e h legal = speaks-step i es e (untold i es h) (fits-legal i es e legal)
