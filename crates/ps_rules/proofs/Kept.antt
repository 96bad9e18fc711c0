-- What histories keep, block by block.
use Rattle.std.proofs.Common.{◌≡◌, ℕ, ◌==◌, ◌&&◌, Bool, true, false, not, Option, Some, None, List, [], ◌∷◌, ◌++◌, IsTrue, if◌then◌else◌, is_none, is_ok, refl, ap, sym, ◌∙◌}
use Rattle.std.specs.Option.{unwrap_or, option_map_or, option_and_then}
use Rattle.std.specs.List.{AllByRecursion}
use Rattle.ps_world.specs.Knowledge.{edited}
use Rattle.ps_machine.specs.declared.members.Unit.{Unit as Task}
use Rattle.ps_machine.specs.declared.journal.By.TheVariants as by
use Rattle.std.proofs.lemmas.Bool.{eqb-true, true≢false, and_parts}
use Rattle.ps_world.specs.Names.{same_name}
use Rattle.ps_world.specs.declared.names.Name.{Name}
use Rattle.ps_action.proofs.Facts.{same_name-is}
use Rattle.ps_machine.specs.declared.inputs.Input.{Input}
use Rattle.ps_machine.specs.declared.journal.Event.{Event}
use Rattle.ps_machine.specs.declared.journal.Event.TheVariants as event
use Rattle.ps_machine.specs.declared.journal.Entry.{Entry}
use Rattle.ps_rules.specs.Reading.{only_if, with_last}
use Rattle.ps_rules.specs.Runs.{is_running}
use Rattle.ps_rules.specs.Auctions.{confirmed, first_offer, is_open, offers, says_confirm, says_offer, is_for_active, is_unserved, is_working, says_working, has_begun}
use Rattle.ps_rules.specs.Laws.{all_confirmed, says_confirmed, IsOnce, FirstOfferWins, OnlyTheConfirmedWork, says_worker, workers}
use Rattle.ps_rules.specs.Known.{know}
use Rattle.ps_rules.specs.Lines.{answers_line, edit_refusal}
use Rattle.ps_rules.specs.Members.{as_edit, next_edit, next_unit, performer_of, unit_of}
use Rattle.ps_rules.specs.Legal.{is_cause, is_confirmed, is_edit, is_feedback, is_finish, is_legal, is_work, row_allows, same_flag}
use Rattle.ps_rules.specs.History.{forced, IsHistory}
use Rattle.ps_rules.specs.History.IsHistory.{nothing, block}
use Rattle.ps_rules.proofs.Pushed.{read-block}

-- a legal event fits
pub fits-legal : (i : Input) (es : List Entry) (e : Event) → IsTrue (is_legal i es e) → row_allows i es e ≡ true
fits-legal i es e h = (and_parts (same_flag (answers_line e) (not (is_running es))) (row_allows i es e) h).1

-- ---- the first offer wins

-- an offer more leaves the first
once-offer : (now : Option Name) (cs os more : List Name) → IsOnce cs now os → IsOnce cs now (os ++ more)
once-offer now [] os more h = h
once-offer now (p ∷ []) [] more h = absurd (cc)
once-offer now (p ∷ []) (q ∷ os) more h = h
once-offer now (p ∷ q ∷ ps) os more h = h

-- nobody is confirmed yet
once-none : (now : Option Name) (cs os : List Name) → IsOnce cs now os → is_none now ≡ true → cs ≡ []
once-none now [] os h none = refl
once-none now (p ∷ []) os h none = absurd (cc)
once-none now (p ∷ q ∷ ps) os h none = absurd h

first-named : (p : Name) (os : List Name) → option_map_or (same_name p) (first_offer os) false ≡ true → first_offer os ≡ Some p
first-named p [] h = absurd (cc)
first-named p (q ∷ os) h = ap Some (sym (same_name-is p q h))

abbrev Once : ℕ → List Entry → Type 0
Once r es = IsOnce (all_confirmed r es) (confirmed r es) (offers r es)

abbrev OnceAfter : ℕ → List Entry → Event → Type 0
OnceAfter r es e =
    IsOnce (with_last (all_confirmed r es) (says_confirmed r e)) (unwrap_or (says_confirm r e) (confirmed r es)) (with_last (offers r es) (says_offer r e))

once-confirm : (p : Name) (now : Option Name) (cs os : List Name) → IsOnce cs now os → is_none now ≡ true → first_offer os ≡ Some p → IsOnce (cs ++ p ∷ []) (Some p) os
once-confirm p now [] os h none first = (refl, first)
once-confirm p now (q ∷ []) os h none first = absurd (true≢false (sym none ∙ ap is_none h.0))
once-confirm p now (q ∷ s ∷ ps) os h none first = absurd h

confirm-step : (b : Bool) (p : Name) (now : Option Name) (cs os : List Name) → IsOnce cs now os
    → (b ≡ true → is_none now ≡ true) → (b ≡ true → first_offer os ≡ Some p)
    → IsOnce (with_last cs (only_if b p)) (unwrap_or (only_if b (Some p)) now) os
confirm-step true p now cs os h none first = once-confirm p now cs os h (none refl) (first refl)
confirm-step false p now cs os h none first = h

offer-step : (b : Bool) (p : Name) (now : Option Name) (cs os : List Name) → IsOnce cs now os → IsOnce cs now (with_last os (only_if b p))
offer-step true p now cs os h = once-offer now cs os (p ∷ []) h
offer-step false p now cs os h = h

once-step : (i : Input) (r : ℕ) (es : List Entry) (e : Event) → Once r es → row_allows i es e ≡ true → OnceAfter r es e
once-step i r es (event.Confirm s p) h f =
    let parts = and_parts (is_open s es) (option_map_or (same_name p) (first_offer (offers s es)) false) f in
    let fine = and_parts (is_none (confirmed s es)) (not (is_unserved s es)) ((and_parts (is_for_active s es) (is_none (confirmed s es) && not (is_unserved s es)) parts.0).1) in
    confirm-step (r == s) p (confirmed r es) (all_confirmed r es) (offers r es) h
    (λ same. ap (λ t. is_none (confirmed t es)) (eqb-true r s same) ∙ fine.0)
    (λ same. ap (λ t. first_offer (offers t es)) (eqb-true r s same) ∙ first-named p (offers s es) parts.1)
once-step i r es (event.Offer s p) h f = offer-step (r == s) p (confirmed r es) (all_confirmed r es) (offers r es) h
once-step i r es e h f = h

-- what a block makes of three things that are read
once-block : (i : Input) (r : ℕ) (es : List Entry) (e : Entry) → OnceAfter r es e.what → Once r (es ++ e ∷ forced i es e)
once-block i r es e h =
    rw (
      read-block (λ xs f. with_last xs (says_confirmed r f)) [] i es e (λ a act why. refl),
      read-block (λ a f. unwrap_or (says_confirm r f) a) None i es e (λ a act why. refl),
      read-block (λ xs f. with_last xs (says_offer r f)) [] i es e (λ a act why. refl),
    ) h

pub first_offer_wins : FirstOfferWins
first_offer_wins i _ nothing r = refl
first_offer_wins i _ (block es e h legal hand) r =
    once-block i r es e (once-step i r es e.what (first_offer_wins i es h r) (fits-legal i es e.what legal))

-- ---- only the confirmed work

abbrev Working : Option Name → List Name → (Name → Bool) → Type 0
Working now ws work = ((p : Name) → work p ≡ true → now ≡ Some p) × AllByRecursion (λ p. now ≡ Some p) ws

none_is_some : (p : Name) → is_none (Some p) ≡ true → ⊥
none_is_some p h = true≢false (sym h)

working-confirm : (b : Bool) (q : Name) (now : Option Name) (ws : List Name) (work : Name → Bool) → Working now ws work → (b ≡ true → is_none now ≡ true)
    → Working (unwrap_or (only_if b (Some q)) now) ws work
working-confirm false q now ws work h none = h
working-confirm true q now [] work h none = (λ p w. absurd (none_is_some p (ap is_none (sym (h.0 p w)) ∙ none refl)), h.1)
working-confirm true q now (p ∷ ps) work h none = absurd (none_is_some p (ap is_none (sym h.1.0) ∙ none refl))

all-last : (now : Option Name) (b : Bool) (q : Name) (ws : List Name) → AllByRecursion (λ p. now ≡ Some p) ws → (b ≡ true → now ≡ Some q) → AllByRecursion (λ p. now ≡ Some p) (with_last ws (only_if b q))
all-last now false q ws h same = h
all-last now true q [] h same = (same refl, tt)
all-last now true q (p ∷ ps) h same = (h.0, all-last now true q ps h.1 same)

work-begun : (b : Bool) (p q : Name) (now : Option Name) (w : Bool) → (b ≡ true → now ≡ Some q) → (w ≡ true → now ≡ Some p) → unwrap_or (only_if (b && same_name p q) true) w ≡ true → now ≡ Some p
work-begun b p q now w same old h =
    let cases : (t : Bool) → (b && same_name p q) ≡ t → unwrap_or (only_if t true) w ≡ true → now ≡ Some p = λ t. elim t as (λ t. (b && same_name p q) ≡ t → unwrap_or (only_if t true) w ≡ true → now ≡ Some p) [
      | true ↦ λ e _. same (and_parts b (same_name p q) e).0 ∙ ap Some (sym (same_name-is p q (and_parts b (same_name p q) e).1))
      | false ↦ λ e g. old g
    ] in
    cases (b && same_name p q) refl h

work-done : (t : Bool) (now : Option Name) (p : Name) (w : Bool) → (w ≡ true → now ≡ Some p) → unwrap_or (only_if t false) w ≡ true → now ≡ Some p
work-done true now p w old h = absurd (cc)
work-done false now p w old h = old h

-- a test of the next unit that is passed says that the performer works
pub works-where : (test : Option Task → Bool) → test None ≡ false → (b c : Bool) (x : Option Task) → test (if b && c then x else None) ≡ true → b ≡ true
works-where test none true c x h = refl
works-where test none false c x h = absurd (true≢false (sym h ∙ none))

pub confirmed_by : (p : Name) (now : Option Name) → option_map_or (same_name p) now false ≡ true → now ≡ Some p
confirmed_by p None h = absurd (cc)
confirmed_by p (Some q) h = ap Some (sym (same_name-is p q h))

abbrev WorkingAt : ℕ → List Entry → Type 0
WorkingAt r es = Working (confirmed r es) (workers r es) (λ p. is_working r p es)

abbrev WorkingAfter : ℕ → List Entry → Event → Type 0
WorkingAfter r es e =
    Working (unwrap_or (says_confirm r e) (confirmed r es)) (with_last (workers r es) (says_worker r e)) (λ p. unwrap_or (says_working r p e) (is_working r p es))

-- who does a unit on a request was confirmed there
unit-step : (r s : ℕ) (p : Name) (i : Input) (es : List Entry) → WorkingAt r es → (test : Option Task → Bool) → test None ≡ false → test (next_unit i s p es) ≡ true
    → (r == s) ≡ true → confirmed r es ≡ Some p
unit-step r s p i es h test none passed same =
    let works : is_working s p es ≡ true = works-where test none (is_working s p es) (is_for_active s es) (option_and_then (λ performer. unit_of performer s p es) (performer_of i p)) passed in
    h.0 p (ap (λ t. is_working t p es) (eqb-true r s same) ∙ works)

working-step : (i : Input) (r : ℕ) (es : List Entry) (e : Event) → WorkingAt r es → row_allows i es e ≡ true → WorkingAfter r es e
working-step i r es (event.Confirm s q) h f =
    let parts = and_parts (is_open s es) (option_map_or (same_name q) (first_offer (offers s es)) false) f in
    let fine = and_parts (is_none (confirmed s es)) (not (is_unserved s es)) ((and_parts (is_for_active s es) (is_none (confirmed s es) && not (is_unserved s es)) parts.0).1) in
    working-confirm (r == s) q (confirmed r es) (workers r es) (λ p. is_working r p es) h (λ same. ap (λ t. is_none (confirmed t es)) (eqb-true r s same) ∙ fine.0)
working-step i r es (event.Begin s q) h f =
    let mine : (r == s) ≡ true → confirmed r es ≡ Some q = λ same. ap (λ t. confirmed t es) (eqb-true r s same) ∙ confirmed_by q (confirmed s es) (and_parts (is_confirmed s q es) (not (has_begun s q es) && is_for_active s es) f).0 in
    (λ p. work-begun (r == s) p q (confirmed r es) (is_working r p es) mine (h.0 p), all-last (confirmed r es) (r == s) q (workers r es) h.1 mine)
working-step i r es (event.Edit (by.Performer s q) edit) h f =
    let passed = and_parts (is_edit edit (next_edit i s q es)) (is_ok (edited i.domain (know i es) edit)) f in
    (h.0, all-last (confirmed r es) (r == s) q (workers r es) h.1 (unit-step r s q i es h (λ u. is_edit edit (option_and_then as_edit u)) refl passed.0))
working-step i r es (event.Refused (by.Performer s q) why) h f = (
  h.0,
  all-last (confirmed r es) (r == s) q (workers r es) h.1
      (unit-step r s q i es h (λ u. is_cause why (option_and_then (λ edit. edit_refusal (edited i.domain (know i es) edit)) (option_and_then as_edit u))) refl f),
)
working-step i r es (event.UnitWork s q) h f = (h.0, all-last (confirmed r es) (r == s) q (workers r es) h.1 (unit-step r s q i es h is_work refl f))
working-step i r es (event.Feedback s q percent text) h f =
    (h.0, all-last (confirmed r es) (r == s) q (workers r es) h.1 (unit-step r s q i es h (is_feedback percent text) refl f))
working-step i r es (event.Finish s q ok) h f = (
  λ p. work-done ((r == s) && same_name p q) (confirmed r es) p (is_working r p es) (h.0 p),
  all-last (confirmed r es) (r == s) q (workers r es) h.1 (unit-step r s q i es h (is_finish ok) refl f),
)
working-step i r es (event.Stopped s q) h f = (λ p. work-done ((r == s) && same_name p q) (confirmed r es) p (is_working r p es) (h.0 p), h.1)
working-step i r es e h f = h

working-block : (i : Input) (r : ℕ) (es : List Entry) (e : Entry) → WorkingAfter r es e.what → WorkingAt r (es ++ e ∷ forced i es e)
working-block i r es e h =
    let now = read-block (λ a f. unwrap_or (says_confirm r f) a) None i es e (λ a act why. refl) in
    let ws = read-block (λ xs f. with_last xs (says_worker r f)) [] i es e (λ a act why. refl) in
    rw (now, ws) (λ p w. h.0 p (sym (read-block (λ a f. unwrap_or (says_working r p f) a) false i es e (λ a act why. refl)) ∙ w), h.1)

working : (i : Input) (es : List Entry) → IsHistory i es → (r : ℕ) → WorkingAt r es
working i _ nothing r = (λ p w. absurd (cc), tt)
working i _ (block es e h legal hand) r =
    working-block i r es e (working-step i r es e.what (working i es h r) (fits-legal i es e.what legal))

pub only_the_confirmed_work : OnlyTheConfirmedWork
only_the_confirmed_work i es h r = (working i es h r).1
