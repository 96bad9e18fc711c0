-- That what a performer has answered stays answered, and that it may not answer it again.
use Rattle.std.proofs.Common.{◌≡◌, ℕ, ◌+◌, ◌<◌, ◌≤◌, ◌==◌, ◌&&◌, ◌||◌, not, Bool, true, false, Option, Some, None, is_none, max, nat_le, nat_lt, length, if◌then◌else◌, List, [], ◌∷◌, refl, arith, ap, sym, ◌∙◌, inl, inr}
use Rattle.std.specs.Option.{option_map_or, unwrap_or}
use Rattle.std.proofs.lemmas.Bool.{eqb-true, ltb-false, ltb-true, true≢false, and_right, and_parts}
use Rattle.std.proofs.lemmas.Bool.Decides.{nat_tests}
use Rattle.ps_world.specs.declared.names.Name.{Name}
use Rattle.ps_machine.specs.declared.inputs.Input.{Input}
use Rattle.ps_machine.specs.declared.members.Performer.{Performer}
use Rattle.ps_machine.specs.declared.journal.PassWhy.{PassWhy}
use Rattle.ps_machine.specs.declared.journal.PassWhy.TheVariants as pass
use Rattle.ps_machine.specs.declared.journal.Event.{Event}
use Rattle.ps_machine.specs.declared.journal.Event.TheVariants as event
use Rattle.ps_machine.specs.declared.journal.Entry.{Entry}
use Rattle.ps_rules.specs.Runs.{is_active, is_running, state}
use Rattle.ps_rules.specs.Auctions.{act_of, confirmed, has_answered, is_answer, is_of_run, is_open, is_request, is_unserved, requests, says_of_run}
use Rattle.ps_rules.specs.Members.{performer_of}
use Rattle.ps_rules.specs.Legal.{is_pass, pass_reason, row_allows}
use Rattle.ps_rules.specs.History.{IsHistory}
use Rattle.ps_rules.proofs.Kept.{fits-legal}
use Rattle.ps_progress_laws.proofs.Blocks.{answered-block, of_run-block, requests-block}
use Rattle.ps_progress_laws.proofs.Picking.{clash, by_test, picked}
use Rattle.ps_progress_laws.proofs.Requests.{of_run}
use Rattle.ps_ledger.specs.Requests.{TellsRequests}
use Rattle.ps_ledger.specs.declared.requests.Requests.{Requests}
use Rattle.ps_actors.specs.Heard.{HasHeard, HearingStays}
use Rattle.ps_actors.specs.Turns.{answers_on, first_legal, passes_on}
use Rattle.ps_actors.proofs.Fitting.{first-later}

-- ---- what stays

-- a request below the number of requests is of the run after a legal event only if it was before
run-before : (i : Input) (es : List Entry) (r : ℕ) (e : Event) → r < requests es → row_allows i es e ≡ true → unwrap_or (says_of_run r e) (is_of_run r es) ≡ true
    → is_of_run r es ≡ true
run-before i es r (event.Run for acts) low fit now = absurd (true≢false (sym now))
run-before i es r (event.Request s act) low fit now =
    elim (picked (r == s) true (is_of_run r es) true now) [
      | inl w ↦
          let same = eqb-true r s w.0 in
          let last = eqb-true s (requests es) (and_parts (s == requests es) _ fit).0 in
          absurd (omega (arith, low, same, last))
      | inr w ↦ w.1
    ]
run-before i es r e low fit now = now

no-fewer : (b : Bool) (n m : ℕ) → m ≤ n → m ≤ (if b then n + 1 else n)
no-fewer true n m le = omega (arith, le)
no-fewer false n m le = le

pub hearing_stays : HearingStays
hearing_stays i es e name upto legal h =
    record {
      heard = λ r lt now.
          let low : r < requests es = let le = h.there in omega (arith, lt, le) in
          let was = run-before i es r e.what low (fits-legal i es e.what legal) (sym (of_run-block i es e r) ∙ now) in
          answered-block i es e r name ∙ ap (λ b. b || is_answer r name e.what) (h.heard r lt was);
      there = rw (requests-block i es e) (no-fewer (is_request e.what) (requests es) upto h.there);
    }

-- ---- what is not answered again

-- a request of an earlier run isn't open
shut : (i : Input) (es : List Entry) (r : ℕ) → IsHistory i es → is_of_run r es ≡ false → is_open r es ≡ false
shut i es r h old = cases (act_of r es) refl
  where
    cases : (o : Option ℕ) → act_of r es ≡ o → is_open r es ≡ false
    cases None its = ap (λ o. option_map_or (λ a. is_active (state a es)) o false && (is_none (confirmed r es) && not (is_unserved r es))) its
    cases (Some act) its = clash (is_of_run r es) (of_run i es h r act its) old

late : (es : List Entry) (r : ℕ) (q : Performer) → is_open r es ≡ false → is_none (pass_reason q r es) ≡ false
late es r q e = rw e refl

none-may : (f : Performer → Bool) → ((q : Performer) → f q ≡ false) → (o : Option Performer) → option_map_or f o false ≡ false
none-may f never None = refl
none-may f never (Some q) = never q

module _ (i : Input) (es : List Entry) (name : Name) (r : ℕ) (history : IsHistory i es) (live : is_running es ≡ true)
    (heard : is_of_run r es ≡ true → has_answered r name es ≡ true) where
  no-offer : row_allows i es (event.Offer r name) ≡ false
  no-offer =
      none-may (λ q. not (has_answered r name es) && is_none (pass_reason q r es))
      (λ q. by_test (is_of_run r es)
      (λ now. ap (λ b. not b && is_none (pass_reason q r es)) (heard now))
      (λ old. and_right (not (has_answered r name es)) (is_none (pass_reason q r es)) (late es r q (shut i es r history old))))
      (performer_of i name)

  no-pass : (why : PassWhy) → row_allows i es (event.Pass r name why) ≡ false
  no-pass why =
      none-may (λ q. is_of_run r es && (not (has_answered r name es) && is_pass why (pass_reason q r es)))
      (λ q. by_test (is_of_run r es)
      (λ now. and_right (is_of_run r es) (not (has_answered r name es) && is_pass why (pass_reason q r es))
      (ap (λ b. not b && is_pass why (pass_reason q r es)) (heard now)))
      (λ old. ap (λ b. b && (not (has_answered r name es) && is_pass why (pass_reason q r es))) old))
      (performer_of i name)

  -- a request that was answered, or is of an earlier run, may not be answered
  pub no-answer : None ≡ first_legal i es (answers_on name r)
  no-answer =
      first-later i es (event.Offer r name) (passes_on name r) None live refl (sym no-offer)
      (first-later i es (event.Pass r name pass.Late) (event.Pass r name pass.Other ∷ event.Pass r name pass.Busy ∷ []) None live refl (sym (no-pass pass.Late))
      (first-later i es (event.Pass r name pass.Other) (event.Pass r name pass.Busy ∷ []) None live refl (sym (no-pass pass.Other))
      (first-later i es (event.Pass r name pass.Busy) [] None live refl (sym (no-pass pass.Busy)) refl)))

-- ---- how far

-- a request before those of the last run isn't of it
pub not-of-run : (es : List Entry) (l : Requests) (r : ℕ) → TellsRequests es l → r < l.of_run → is_of_run r es ≡ false
not-of-run es l r told lt =
    let low : nat_le l.of_run r ≡ false = grind (arith, nat_tests, lt) in
    told.of_run r ∙ ap (λ b. b && nat_lt r (length l.all.items)) low

-- it has answered each request of the run below this number
abbrev pub HasAnsweredBelow : Name → ℕ → List Entry → Type 0
HasAnsweredBelow name n es = (k : ℕ) → k < n → is_of_run k es ≡ true → has_answered k name es ≡ true

pub answered-start : (es : List Entry) (l : Requests) (name : Name) (from : ℕ) → TellsRequests es l → HasHeard name from es → HasAnsweredBelow name (max from l.of_run) es
answered-start es l name from told h k lt now =
    by_test (nat_lt k from)
    (λ t. h.heard k (ltb-true k from t) now)
    (λ f.
    let past : from ≤ k = ltb-false k from f in
    let low : k < l.of_run = omega (arith, lt, past) in
    clash (is_of_run k es) now (not-of-run es l k told low))

pub answered-more : (es : List Entry) (name : Name) (n : ℕ) → HasAnsweredBelow name n es → has_answered n name es ≡ true → HasAnsweredBelow name (n + 1) es
answered-more es name n below here k lt now =
    by_test (k == n)
    (λ t. ap (λ j. has_answered j name es) (eqb-true k n t) ∙ here)
    (λ f. let less : k < n = grind (arith, nat_tests, f, lt) in below k less now)
