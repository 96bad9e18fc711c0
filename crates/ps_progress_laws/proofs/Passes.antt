-- What histories keep of passes and unserved requests.
use Rattle.std.proofs.Common.{◌≡◌, ℕ, ◌+◌, ◌<◌, ◌==◌, ◌&&◌, ◌||◌, Bool, true, false, not, Option, Some, None, is_none, is_some, List, slice_get, option_and_then, if◌then◌else◌, refl, arith, ap, sym, ◌∙◌, subst, inl, inr, ◌⊎◌}
use Rattle.std.specs.List.{list_any}
use Rattle.std.specs.Option.{option_map_or, unwrap_or}
use Rattle.std.proofs.lemmas.Bool.{eqb-true, true≢false, not-true, or_cases, or_left, or_parts, or_right, and_parts}
use Rattle.ps_world.specs.Names.{same_name}
use Rattle.ps_world.specs.declared.names.Name.{Name}
use Rattle.ps_world.proofs.Optionals.{none_not_some, some_same}
use Rattle.ps_action.proofs.Facts.{same_name-is}
use Rattle.ps_machine.specs.declared.inputs.Input.{Input}
use Rattle.ps_machine.specs.declared.members.Performer.{Performer}
use Rattle.ps_machine.specs.declared.journal.PassWhy.{PassWhy}
use Rattle.ps_machine.specs.declared.journal.PassWhy.TheVariants as pass
use Rattle.ps_machine.specs.declared.journal.Event.{Event}
use Rattle.ps_machine.specs.declared.journal.Event.TheVariants as event
use Rattle.ps_machine.specs.declared.journal.Entry.{Entry}
use Rattle.ps_rules.specs.Reading.{only_if}
use Rattle.ps_rules.specs.Runs.{plan, says_plan}
use Rattle.ps_rules.specs.Auctions.{act_of, has_answered, has_offered, is_answer, is_engaged, is_of_run, is_offer, is_open, is_request, is_unserved, pass_of, requests, says_act, says_pass, leaves_unserved}
use Rattle.ps_rules.specs.Members.{matches, matches_request, performer_of, performers}
use Rattle.ps_rules.specs.Legal.{is_pass, is_passed, matches_act, pass_reason, row_allows, was_busy}
use Rattle.ps_rules.specs.History.{IsHistory}
use Rattle.ps_rules.specs.History.IsHistory.{nothing, block}
use Rattle.ps_rules.proofs.Kept.{fits-legal}
use Rattle.ps_progress_laws.proofs.Blocks.{act-block, answered-block, offered-block, pass-block, plan-block, requests-block, unserved-block}
use Rattle.ps_progress_laws.proofs.Offers.{numbered, offer_says, offered_answered, opens_for}
use Rattle.ps_progress_laws.proofs.Lists.{any_in, found_in, In, in_any}
use Rattle.ps_progress_laws.proofs.Requests.{run_numbered}
use Rattle.ps_progress_laws.proofs.Picking.{at_one, clash, pick_yes, picked}

-- who answered offered or passed
pub answered : (i : Input) (es : List Entry) → IsHistory i es → (r : ℕ) (p : Name) → has_answered r p es ≡ true → has_offered r p es ≡ false → is_some (pass_of r p es) ≡ true
answered i _ nothing r p a o = absurd (cc)
answered i _ (block es e h legal own) r p a o =
    ap is_some (pass-block i es e r p)
    ∙ step e.what (answered i es h r p) (or_cases (has_answered r p es) (is_answer r p e.what) (sym (answered-block i es e r p) ∙ a)) (or_parts (has_offered r p es) (is_offer r p e.what) (sym (offered-block i es e r p) ∙ o))
  where
    still : (b : Bool) (x : PassWhy) (was : Option PassWhy) → is_some was ≡ true → is_some (unwrap_or (only_if b (Some x)) was) ≡ true
    still true x was h = refl
    still false x was h = h

    step : (e : Event) → (has_answered r p es ≡ true → has_offered r p es ≡ false → is_some (pass_of r p es) ≡ true) → (has_answered r p es ≡ true) ⊎ (is_answer r p e ≡ true)
        → (has_offered r p es ≡ false) × (is_offer r p e ≡ false) → is_some (unwrap_or (says_pass r p e) (pass_of r p es)) ≡ true
    step (event.Pass s q why) old (inl a) n = still ((r == s) && same_name p q) why (pass_of r p es) (old a n.0)
    step (event.Pass s q why) old (inr a) n = ap is_some (pick_yes ((r == s) && same_name p q) (Some why) (pass_of r p es) a)
    step (event.Offer s q) old (inl a) n = old a n.0
    step (event.Offer s q) old (inr a) n = clash ((r == s) && same_name p q) a n.1
    step e old (inl a) n = old a n.0
    step e old (inr a) n = absurd (true≢false (sym a))

-- who passed answered
pub passed_answered : (i : Input) (es : List Entry) → IsHistory i es → (r : ℕ) (p : Name) (why : PassWhy) → pass_of r p es ≡ Some why → has_answered r p es ≡ true
passed_answered i _ nothing r p why o = none_not_some why o
passed_answered i _ (block es e h legal own) r p why o =
    answered-block i es e r p ∙ step e.what (passed_answered i es h r p why) (sym (pass-block i es e r p) ∙ o)
  where
    step : (e : Event) → (pass_of r p es ≡ Some why → has_answered r p es ≡ true) → unwrap_or (says_pass r p e) (pass_of r p es) ≡ Some why → (has_answered r p es || is_answer r p e) ≡ true
    step (event.Pass s q x) old o =
        elim (picked ((r == s) && same_name p q) (Some x) (pass_of r p es) (Some why) o) [
          | inl w ↦ or_right (has_answered r p es) ((r == s) && same_name p q) w.0
          | inr w ↦ or_left (has_answered r p es) ((r == s) && same_name p q) (old w.1)
        ]
    step e old o = or_left (has_answered r p es) (is_answer r p e) (old o)

-- the performer that a test of it speaks of
performed : (i : Input) (q : Name) (test : Performer → Bool) → option_map_or test (performer_of i q) false ≡ true → (performer : Performer) × In performer (performers i) × (q ≡ performer.name) × (test performer ≡ true)
performed i q test h = by_found (performer_of i q) refl h
  where
    by_found : (o : Option Performer) → performer_of i q ≡ o → option_map_or test o false ≡ true → (performer : Performer) × In performer (performers i) × (q ≡ performer.name) × (test performer ≡ true)
    by_found None e h = absurd (cc)
    by_found (Some x) e h = let w = found_in (λ performer. same_name q performer.name) (performers i) x e in (x, w.0, same_name-is q x.name w.1, h)

-- a performer that would offer, or is busy, finds the request open, and does its act
reasons : (performer : Performer) (s : ℕ) (es : List Entry) (o : Option PassWhy) → pass_reason performer s es ≡ o → (is_pass pass.Late o ≡ false) → (is_pass pass.Other o ≡ false)
    → (is_open s es ≡ true) × (matches_request performer s es ≡ true) × ((is_none o ≡ true) → is_engaged performer.name es ≡ false)
reasons performer s es o e late other = by_tests (is_open s es) (matches_request performer s es) (is_engaged performer.name es) e
  where
    by_tests : (a b c : Bool) → (if not a then Some pass.Late else (if not b then Some pass.Other else (if c then Some pass.Busy else None))) ≡ o → (a ≡ true) × (b ≡ true) × ((is_none o ≡ true) → c ≡ false)
    by_tests false b c e = clash (is_pass pass.Late o) (ap (is_pass pass.Late) (sym e)) late
    by_tests true false c e = clash (is_pass pass.Other o) (ap (is_pass pass.Other) (sym e)) other
    by_tests true true true e = (refl, refl, λ n. absurd (true≢false (sym n ∙ ap is_none (sym e))))
    by_tests true true false e = (refl, refl, λ n. refl)

-- a performer of this name takes part
abbrev pub TakesPart : Input → Name → Type 0
TakesPart i p = (performer : Performer) × In performer (performers i) × (p ≡ performer.name)

-- whoever is found by its name takes part
pub takes_part : (i : Input) (p : Name) → is_some (performer_of i p) ≡ true → TakesPart i p
takes_part i p m = by_found (performer_of i p) refl m
  where
    by_found : (o : Option Performer) → performer_of i p ≡ o → is_some o ≡ true → TakesPart i p
    by_found None e m = absurd (cc)
    by_found (Some x) e m = let w = found_in (λ performer. same_name p performer.name) (performers i) x e in (x, w.0, same_name-is p x.name w.1)

-- who offered takes part
pub offered_member : (i : Input) (es : List Entry) → IsHistory i es → (r : ℕ) (p : Name) → has_offered r p es ≡ true → TakesPart i p
offered_member i _ nothing r p o = absurd (cc)
offered_member i _ (block es e h legal own) r p o =
    step e.what (fits-legal i es e.what legal) (or_cases (has_offered r p es) (is_offer r p e.what) (sym (offered-block i es e r p) ∙ o)) (offered_member i es h r p)
  where
    step : (e : Event) → row_allows i es e ≡ true → (has_offered r p es ≡ true) ⊎ (is_offer r p e ≡ true) → (has_offered r p es ≡ true → TakesPart i p)
        → TakesPart i p
    step e f (inl o) old = old o
    step (event.Offer s q) f (inr o) old = takes_part i p (ap (λ n. is_some (performer_of i n)) (at_one r s p q o).1 ∙ (offer_says i es s q f).member)
    step e f (inr o) old = absurd (true≢false (sym o))

-- who offered didn't pass
pub offered_unpassed : (i : Input) (es : List Entry) → IsHistory i es → (r : ℕ) (p : Name) (why : PassWhy) → has_offered r p es ≡ true → pass_of r p es ≡ Some why → ⊥
offered_unpassed i _ nothing r p why o s = none_not_some why s
offered_unpassed i _ (block es e h legal own) r p why o s =
    step e.what (fits-legal i es e.what legal) (or_cases (has_offered r p es) (is_offer r p e.what) (sym (offered-block i es e r p) ∙ o)) (sym (pass-block i es e r p) ∙ s) (offered_unpassed i es h r p why)
    (passed_answered i es h r p why) (offered_answered i es h r p)
  where
    step : (e : Event) → row_allows i es e ≡ true → (has_offered r p es ≡ true) ⊎ (is_offer r p e ≡ true) → unwrap_or (says_pass r p e) (pass_of r p es) ≡ Some why
        → (has_offered r p es ≡ true → pass_of r p es ≡ Some why → ⊥) → (pass_of r p es ≡ Some why → has_answered r p es ≡ true) → (has_offered r p es ≡ true → has_answered r p es ≡ true) → ⊥
    step (event.Offer s q) f (inl o) x old passed offered = old o x
    step (event.Offer s q) f (inr o) x old passed offered =
        let same = at_one r s p q o in
        clash (has_answered r p es) (passed x) (ap (λ t. has_answered t p es) same.0 ∙ ap (λ n. has_answered s n es) same.1 ∙ (offer_says i es s q f).fresh)
    step (event.Pass s q y) f (inl o) x old passed offered =
        elim (picked ((r == s) && same_name p q) (Some y) (pass_of r p es) (Some why) x) [
          | inl w ↦
              let same = at_one r s p q w.0 in
              let u = performed i q (λ performer. is_of_run s es && (not (has_answered s q es) && is_pass y (pass_reason performer s es))) f in
              let n = (and_parts (not (has_answered s q es)) _ (and_parts (is_of_run s es) _ u.3).1).0 in
              clash (has_answered r p es) (offered o) (ap (λ t. has_answered t p es) same.0 ∙ ap (λ n. has_answered s n es) same.1 ∙ not-true (has_answered s q es) n)
          | inr w ↦ old o w.1
        ]
    step e f (inl o) x old passed offered = old o x
    step e f (inr o) x old passed offered = absurd (true≢false (sym o))

-- ---- unserved requests

-- a request that a performer passed is there
pub pass_numbered : (i : Input) (es : List Entry) → IsHistory i es → (r : ℕ) (p : Name) (why : PassWhy) → pass_of r p es ≡ Some why → r < requests es
pass_numbered i _ nothing r p why a = none_not_some why a
pass_numbered i _ (block es e h legal own) r p why a =
    subst (λ n. r < n) (sym (requests-block i es e)) (step e.what (fits-legal i es e.what legal) (pass_numbered i es h r p why) (sym (pass-block i es e r p) ∙ a))
  where
    more : (b : Bool) → r < requests es → r < (if b then requests es + 1 else requests es)
    more true l = omega (arith, l)
    more false l = l

    step : (e : Event) → row_allows i es e ≡ true → (pass_of r p es ≡ Some why → r < requests es) → unwrap_or (says_pass r p e) (pass_of r p es) ≡ Some why → r < (if is_request e then requests es + 1 else requests es)
    step (event.Pass s q x) f old a =
        elim (picked ((r == s) && same_name p q) (Some x) (pass_of r p es) (Some why) a) [
          | inl w ↦
              let u = performed i q (λ performer. is_of_run s es && (not (has_answered s q es) && is_pass x (pass_reason performer s es))) f in
              run_numbered i es h r (ap (λ t. is_of_run t es) (at_one r s p q w.0).0 ∙ (and_parts (is_of_run s es) _ u.3).0)
          | inr w ↦ old w.1
        ]
    step e f old a = more (is_request e) (old a)

-- an unserved request is there
pub unserved_numbered : (i : Input) (es : List Entry) → IsHistory i es → (r : ℕ) → is_unserved r es ≡ true → r < requests es
unserved_numbered i _ nothing r a = absurd (cc)
unserved_numbered i _ (block es e h legal own) r a =
    subst (λ n. r < n) (sym (requests-block i es e)) (step e.what (unserved_numbered i es h r) (fits-legal i es e.what legal) (or_cases (is_unserved r es) (leaves_unserved r e.what) (sym (unserved-block i es e r) ∙ a)))
  where
    more : (b : Bool) → r < requests es → r < (if b then requests es + 1 else requests es)
    more true l = omega (arith, l)
    more false l = l

    step : (e : Event) → (is_unserved r es ≡ true → r < requests es) → row_allows i es e ≡ true → (is_unserved r es ≡ true) ⊎ (leaves_unserved r e ≡ true) → r < (if is_request e then requests es + 1 else requests es)
    step e old f (inl a) = more (is_request e) (old a)
    step (event.Unserved s) old f (inr a) =
        let o = opens_for s es (and_parts (is_open s es) _ (and_parts (is_passed i s es) (was_busy i s es) f).0).0 in
        numbered i es h r o.0 (ap (λ t. act_of t es) (eqb-true r s a) ∙ o.1)
    step e old f (inr a) = absurd (true≢false (sym a))

-- who was busy does the act
pub busy : (i : Input) (es : List Entry) → IsHistory i es → (r act : ℕ) (p : Name) → pass_of r p es ≡ Some pass.Busy → act_of r es ≡ Some act
    → list_any (λ p. matches_act p act es) (performers i) ≡ true
busy i _ nothing r act p a o = none_not_some act o
busy i _ (block es e h legal own) r act p a o =
    ap (λ acts. list_any (λ p. option_map_or (matches p) (slice_get acts act) false) (performers i)) (plan-block i es e)
    ∙ step e.what (fits-legal i es e.what legal) (busy i es h r act p) (sym (pass-block i es e r p) ∙ a) (sym (act-block i es e r) ∙ o)
  where
    step : (e : Event) → row_allows i es e ≡ true → (pass_of r p es ≡ Some pass.Busy → act_of r es ≡ Some act → list_any (λ p. matches_act p act es) (performers i) ≡ true)
        → unwrap_or (says_pass r p e) (pass_of r p es) ≡ Some pass.Busy → unwrap_or (says_act r e) (act_of r es) ≡ Some act
        → list_any (λ p. option_map_or (matches p) (slice_get (unwrap_or (says_plan e) (plan es)) act) false) (performers i) ≡ true
    step (event.Run for acts) f old a o = none_not_some act o
    step (event.Replan acts) f old a o = none_not_some act o
    step (event.Request s j) f old a o =
        let n = eqb-true s (requests es) (and_parts (s == requests es) _ f).0 in
        let l = pass_numbered i es h r p pass.Busy a in
        elim (picked (r == s) (Some j) (act_of r es) (Some act) o) [
          | inl w ↦ let m = eqb-true r s w.0 in absurd (omega (arith, l, m, n))
          | inr w ↦ old a w.1
        ]
    step (event.Pass s q x) f old a o =
        elim (picked ((r == s) && same_name p q) (Some x) (pass_of r p es) (Some pass.Busy) a) [
          | inl w ↦
              let u = performed i q (λ performer. is_of_run s es && (not (has_answered s q es) && is_pass x (pass_reason performer s es))) f in
              let same = (at_one r s p q w.0).0 in
              let is : is_pass pass.Busy (pass_reason u.0 s es) ≡ true = ap (λ y. is_pass y (pass_reason u.0 s es)) (sym (some_same x pass.Busy w.1)) ∙ (and_parts (not (has_answered s q es)) _ (and_parts (is_of_run s es) _ u.3).1).1 in
              let does = (reasons u.0 s es (pass_reason u.0 s es) refl (not_late (pass_reason u.0 s es) is) (not_other (pass_reason u.0 s es) is)).1 in
              in_any (λ p. matches_act p act es) (performers i) u.0 u.1
              (sym (ap (λ t. option_map_or (matches u.0) (option_and_then (slice_get (plan es)) t) false) (sym (ap (λ t. act_of t es) same) ∙ o)) ∙ does)
          | inr w ↦ old w.1 o
        ]
      where
        not_late : (o : Option PassWhy) → is_pass pass.Busy o ≡ true → is_pass pass.Late o ≡ false
        not_late None e = refl
        not_late (Some pass.Busy) e = refl
        not_late (Some pass.Late) e = absurd (cc)
        not_late (Some pass.Other) e = refl

        not_other : (o : Option PassWhy) → is_pass pass.Busy o ≡ true → is_pass pass.Other o ≡ false
        not_other None e = refl
        not_other (Some pass.Busy) e = refl
        not_other (Some pass.Late) e = refl
        not_other (Some pass.Other) e = absurd (cc)
    step e f old a o = old a o

-- the act of an unserved request is done by some performer
pub served : (i : Input) (es : List Entry) → IsHistory i es → (r act : ℕ) → act_of r es ≡ Some act → is_unserved r es ≡ true
    → list_any (λ p. matches_act p act es) (performers i) ≡ true
served i _ nothing r act o u = none_not_some act o
served i _ (block es e h legal own) r act o u =
    ap (λ acts. list_any (λ p. option_map_or (matches p) (slice_get acts act) false) (performers i)) (plan-block i es e)
    ∙ step e.what (fits-legal i es e.what legal) (served i es h r act) (or_cases (is_unserved r es) (leaves_unserved r e.what) (sym (unserved-block i es e r) ∙ u)) (sym (act-block i es e r) ∙ o)
  where
    is_busy : (o : Option PassWhy) → is_pass pass.Busy o ≡ true → o ≡ Some pass.Busy
    is_busy None e = absurd (cc)
    is_busy (Some pass.Busy) e = refl
    is_busy (Some pass.Late) e = absurd (cc)
    is_busy (Some pass.Other) e = absurd (cc)

    step : (e : Event) → row_allows i es e ≡ true → (act_of r es ≡ Some act → is_unserved r es ≡ true → list_any (λ p. matches_act p act es) (performers i) ≡ true)
        → (is_unserved r es ≡ true) ⊎ (leaves_unserved r e ≡ true) → unwrap_or (says_act r e) (act_of r es) ≡ Some act
        → list_any (λ p. option_map_or (matches p) (slice_get (unwrap_or (says_plan e) (plan es)) act) false) (performers i) ≡ true
    step (event.Run for acts) f old u o = none_not_some act o
    step (event.Replan acts) f old u o = none_not_some act o
    step (event.Request s j) f old (inl u) o =
        let n = eqb-true s (requests es) (and_parts (s == requests es) _ f).0 in
        let l = unserved_numbered i es h r u in
        elim (picked (r == s) (Some j) (act_of r es) (Some act) o) [
          | inl w ↦ let m = eqb-true r s w.0 in absurd (omega (arith, l, m, n))
          | inr w ↦ old w.1 u
        ]
    step (event.Unserved s) f (old) (inr u) o =
        let w = any_in (λ p. is_pass pass.Busy (pass_of s p.name es)) (performers i) (and_parts (is_passed i s es) (was_busy i s es) f).1 in
        busy i es h r act (w.0).name (ap (λ t. pass_of t (w.0).name es) (eqb-true r s u) ∙ is_busy (pass_of s (w.0).name es) w.2) o
    step e f old (inl u) o = old o u
    step e f old (inr u) o = absurd (true≢false (sym u))
