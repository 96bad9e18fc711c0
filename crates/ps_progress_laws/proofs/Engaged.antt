-- A performer is engaged exactly where some request holds it, and one request holds it at a time.
use Rattle.std.proofs.Common.{◌≡◌, ℕ, ◌==◌, ◌&&◌, ◌||◌, Bool, true, false, not, Option, Some, None, is_some, List, refl, arith, ap, sym, ◌∙◌, inl, inr}
use Rattle.std.specs.List.{list_all}
use Rattle.std.specs.Option.{option_map_or, unwrap_or}
use Rattle.std.proofs.lemmas.Bool.{and_from, and_right, cases_Bool, eqb-true, false_from_ne_true, not-true, or_cases, or_from, or_left, or_right, true≢false, and_parts, eq-eqb}
use Rattle.ps_world.specs.Names.{same_name}
use Rattle.ps_world.specs.declared.names.Name.{Name}
use Rattle.ps_action.proofs.Facts.{same_name-is}
use Rattle.ps_machine.specs.declared.inputs.Input.{Input}
use Rattle.ps_machine.specs.declared.members.Performer.{Performer}
use Rattle.ps_machine.specs.declared.journal.Event.{Event}
use Rattle.ps_machine.specs.declared.journal.Event.TheVariants as event
use Rattle.ps_machine.specs.declared.journal.Entry.{Entry}
use Rattle.ps_rules.specs.Reading.{only_if}
use Rattle.ps_rules.specs.Runs.{is_active, is_running, says_open, state}
use Rattle.ps_rules.specs.Auctions.{act_of, confirmed, has_answered, has_begun, has_offered, is_engaged, is_for_active, is_for_cancelled, is_last, is_offer, is_reject, is_rejected, is_through, is_working, requests, says_act, says_engaged, says_working}
use Rattle.ps_rules.specs.Lines.{answers_line}
use Rattle.ps_rules.specs.Members.{performer_of, performers}
use Rattle.ps_rules.specs.Settled.{is_settled, places}
use Rattle.ps_rules.specs.Legal.{is_confirmed, is_legal, row_allows, same_flag}
use Rattle.ps_rules.specs.History.{IsHistory}
use Rattle.ps_rules.specs.History.IsHistory.{nothing, block}
use Rattle.ps_rules.proofs.Kept.{confirmed_by, fits-legal}
use Rattle.ps_progress_laws.specs.Engaged.{EngagedOnOne, is_engaged_on}
use Rattle.ps_progress_laws.proofs.Blocks.{act-block, engaged-block, held-block, offered-block, rejected-block, running-block, through-block, working-block}
use Rattle.ps_progress_laws.proofs.Held.{is_held, says_held}
use Rattle.ps_progress_laws.proofs.Offers.{confirmed_offered, numbered, offer_says, offered_answered, opens_for}
use Rattle.ps_progress_laws.proofs.Picking.{at_one, clash, count_other, found, kept, pick_no, pick_yes, picked, stays}
use Rattle.ps_progress_laws.proofs.Working.{active_not, confirms, finish_works, IsClosed, moved, offered_held, rejected_closed, rejected_offered, through_closed, through_confirmed, working_confirmed}

-- ---- nobody is engaged between runs

-- who is engaged takes part
pub engaged_member : (i : Input) (es : List Entry) → IsHistory i es → (p : Name) → is_engaged p es ≡ true → is_some (performer_of i p) ≡ true
engaged_member i _ nothing p o = absurd (cc)
engaged_member i _ (block es e h legal own) p o =
    step e.what (fits-legal i es e.what legal) (engaged_member i es h p) (sym (engaged-block i es e p) ∙ o)
  where
    step : (e : Event) → row_allows i es e ≡ true → (is_engaged p es ≡ true → is_some (performer_of i p) ≡ true) → unwrap_or (says_engaged p e) (is_engaged p es) ≡ true
        → is_some (performer_of i p) ≡ true
    step (event.Offer s q) f old o =
        elim (picked (same_name p q) true (is_engaged p es) true o) [
          | inl w ↦ ap (λ n. is_some (performer_of i n)) (same_name-is p q w.0) ∙ (offer_says i es s q f).member
          | inr w ↦ old w.1
        ]
    step (event.Reject s q) f old o = old (kept (same_name p q) (is_engaged p es) o).1
    step (event.Finish s q ok) f old o = old (kept (same_name p q) (is_engaged p es) o).1
    step (event.Stopped s q) f old o = old (kept (same_name p q) (is_engaged p es) o).1
    step e f old o = old o

-- where a run is settled nobody is engaged
settled_free : (i : Input) (es : List Entry) → IsHistory i es → is_settled i es ≡ true → (p : Name) → is_engaged p es ≡ true → ⊥
settled_free i es h s p e = by_found (performer_of i p) refl (engaged_member i es h p e)
  where
    by_found : (o : Option Performer) → performer_of i p ≡ o → is_some o ≡ true → ⊥
    by_found None f m = absurd (cc)
    by_found (Some x) f m =
        let free : Bool = list_all (λ performer. not (is_engaged performer.name es)) (performers i) in
        let all = (and_parts free _ (and_parts (list_all (λ act. not (is_active (state act es))) (places es)) _ s).1).0 in
        let w = found (λ performer. same_name p performer.name) (λ performer. not (is_engaged performer.name es)) (performers i) x f in
        clash (is_engaged p es) e (ap (λ n. is_engaged n es) (same_name-is p x.name w.0) ∙ not-true (is_engaged x.name es) (w.1 all))

-- an event that answers no line needs an open run
runs : (i : Input) (es : List Entry) (e : Event) → is_legal i es e ≡ true → answers_line e ≡ false → is_running es ≡ true
runs i es e l a = open_of (answers_line e) (is_running es) a (and_parts (same_flag (answers_line e) (not (is_running es))) (row_allows i es e) l).0
  where
    open_of : (own live : Bool) → own ≡ false → same_flag own (not live) ≡ true → live ≡ true
    open_of true live o f = absurd (true≢false o)
    open_of false true o f = refl
    open_of false false o f = absurd (cc)

-- where no run is open nobody is engaged
pub idle_free : (i : Input) (es : List Entry) → IsHistory i es → is_running es ≡ false → (p : Name) → is_engaged p es ≡ true → ⊥
idle_free i _ nothing n p o = absurd (cc)
idle_free i _ (block es e h legal own) n p o =
    step e.what legal (idle_free i es h) (sym (running-block i es e) ∙ n) (sym (engaged-block i es e p) ∙ o)
  where
    step : (e : Event) → is_legal i es e ≡ true → (is_running es ≡ false → (p : Name) → is_engaged p es ≡ true → ⊥) → unwrap_or (says_open e) (is_running es) ≡ false
        → unwrap_or (says_engaged p e) (is_engaged p es) ≡ true → ⊥
    step (event.Run for acts) l old n o = true≢false n
    step (event.Over how) l old n o = settled_free i es h (and_parts (is_settled i es) _ (fits-legal i es (event.Over how) l)).0 p o
    step (event.Offer s q) l old n o = clash (is_running es) (runs i es (event.Offer s q) l refl) n
    step (event.Reject s q) l old n o = clash (is_running es) (runs i es (event.Reject s q) l refl) n
    step (event.Finish s q ok) l old n o = clash (is_running es) (runs i es (event.Finish s q ok) l refl) n
    step (event.Stopped s q) l old n o = clash (is_running es) (runs i es (event.Stopped s q) l refl) n
    step e l old n o = old n p o

-- ---- who is engaged is held

-- a request for an act of the present plan holds this performer
abbrev HeldFor : Name → List Entry → Type 0
HeldFor p es = (r : ℕ) × (act : ℕ) × (act_of r es ≡ Some act) × (is_held r p es ≡ true)

-- who is engaged is held by a request for an act of the present plan
pub engaged_held : (i : Input) (es : List Entry) → IsHistory i es → (p : Name) → is_engaged p es ≡ true → HeldFor p es
engaged_held i _ nothing p o = absurd (cc)
engaged_held i _ (block es e h legal own) p o =
    let w = step e.what legal (engaged_held i es h p) (sym (engaged-block i es e p) ∙ o) in
    (w.0, w.1, act-block i es e w.0 ∙ w.2, held-block i es e w.0 p ∙ w.3)
  where
    still : (s r : ℕ) (q : Name) → same_name p q ≡ false → is_held r p es ≡ true → unwrap_or (only_if ((r == s) && same_name p q) false) (is_held r p es) ≡ true
    still s r q n t = pick_no ((r == s) && same_name p q) false (is_held r p es) (and_right (r == s) (same_name p q) n) ∙ t

    step : (e : Event) → is_legal i es e ≡ true → (is_engaged p es ≡ true → HeldFor p es) → unwrap_or (says_engaged p e) (is_engaged p es) ≡ true
        → (r : ℕ) × (act : ℕ) × (unwrap_or (says_act r e) (act_of r es) ≡ Some act) × (unwrap_or (says_held r p e) (is_held r p es) ≡ true)
    step (event.Run for acts) l old o =
        absurd (idle_free i es h (not-true (is_running es) (and_parts (same_flag true (not (is_running es))) (row_allows i es (event.Run for acts)) l).0) p o)
    step (event.Replan acts) l old o = absurd (settled_free i es h (and_parts (is_settled i es) _ (fits-legal i es (event.Replan acts) l)).0 p o)
    step (event.Request s j) l old o =
        let w = old o in
        let n = eqb-true s (requests es) (and_parts (s == requests es) _ (fits-legal i es (event.Request s j) l)).0 in
        let m = numbered i es h w.0 w.1 w.2 in
        (w.0, w.1, pick_no (w.0 == s) (Some j) (act_of w.0 es) (count_other w.0 s (omega (arith, m, n))) ∙ w.2, w.3)
    step (event.Offer s q) l old o =
        elim (picked (same_name p q) true (is_engaged p es) true o) [
          | inl w ↦
              let a = opens_for s es (offer_says i es s q (fits-legal i es (event.Offer s q) l)).opened in
              (s, a.0, a.1, pick_yes ((s == s) && same_name p q) true (is_held s p es) (and_from (s == s) (same_name p q) (eq-eqb s s refl) w.0))
          | inr w ↦ let u = old w.1 in (u.0, u.1, u.2, stays ((u.0 == s) && same_name p q) (is_held u.0 p es) u.3)
        ]
    step (event.Reject s q) l old o = let n = kept (same_name p q) (is_engaged p es) o in let w = old n.1 in (w.0, w.1, w.2, still s w.0 q n.0 w.3)
    step (event.Finish s q ok) l old o = let n = kept (same_name p q) (is_engaged p es) o in let w = old n.1 in (w.0, w.1, w.2, still s w.0 q n.0 w.3)
    step (event.Stopped s q) l old o = let n = kept (same_name p q) (is_engaged p es) o in let w = old n.1 in (w.0, w.1, w.2, still s w.0 q n.0 w.3)
    step e l old o = old o

-- ---- one request at a time

-- who was confirmed and isn't through is held
pub confirmed_held : (i : Input) (es : List Entry) → IsHistory i es → (r : ℕ) (p : Name) → confirmed r es ≡ Some p → is_through r p es ≡ false → is_held r p es ≡ true
confirmed_held i es h r p c t =
    let kept_on = false_from_ne_true (is_rejected r p es) (λ j. (rejected_closed i es h r p j).0 c) in
    offered_held i es h r p (confirmed_offered i es h r p c) kept_on t

-- a request for an active act isn't closed
pub active_open : (r : ℕ) (es : List Entry) → is_for_active r es ≡ true → IsClosed r es → ⊥
active_open r es a c = by_act (act_of r es) refl a
  where
    by_act : (o : Option ℕ) → act_of r es ≡ o → option_map_or (λ act. is_active (state act es)) o false ≡ true → ⊥
    by_act None e a = absurd (cc)
    by_act (Some act) e a = active_not (state act es) (c act e) a

-- who works isn't through
pub working_unfinished : (i : Input) (es : List Entry) → IsHistory i es → (r : ℕ) (p : Name) → is_working r p es ≡ true → is_through r p es ≡ false
working_unfinished i _ nothing r p o = absurd (cc)
working_unfinished i _ (block es e h legal own) r p o =
    through-block i es e r p ∙ step e.what (fits-legal i es e.what legal) (working_unfinished i es h r p) (sym (working-block i es e r p) ∙ o)
  where
    gone : (s : ℕ) (q : Name) → (is_working r p es ≡ true → is_through r p es ≡ false) → unwrap_or (only_if ((r == s) && same_name p q) false) (is_working r p es) ≡ true
        → (is_through r p es || ((r == s) && same_name p q)) ≡ false
    gone s q old o =
        let w = kept ((r == s) && same_name p q) (is_working r p es) o in
        or_from (is_through r p es) ((r == s) && same_name p q) (old w.1) w.0

    step : (e : Event) → row_allows i es e ≡ true → (is_working r p es ≡ true → is_through r p es ≡ false) → unwrap_or (says_working r p e) (is_working r p es) ≡ true
        → (is_through r p es || is_last r p e) ≡ false
    step (event.Begin s q) f old o =
        elim (picked ((r == s) && same_name p q) true (is_working r p es) true o) [
          | inl w ↦
              let same = at_one r s p q w.0 in
              let u = and_parts (not (has_begun s q es)) (is_for_active s es) (and_parts (is_confirmed s q es) _ f).1 in
              let fresh = moved (λ t n. has_begun t n es) r s p q same ∙ not-true (has_begun s q es) u.0 in
              let open_yet = ap (λ t. is_for_active t es) same.0 ∙ u.1 in
              or_from (is_through r p es) false
              (false_from_ne_true (is_through r p es) (λ t. elim (through_closed i es h r p t) [
                | inl b ↦ clash (has_begun r p es) b fresh
                | inr c ↦ active_open r es open_yet c
              ])) refl
          | inr w ↦ or_from (is_through r p es) false (old w.1) refl
        ]
    step (event.Finish s q ok) f old o = gone s q old o
    step (event.Stopped s q) f old o = gone s q old o
    step e f old o = or_from (is_through r p es) (is_last r p e) (old o) refl

-- a performer that this request holds is engaged, and no other request holds it
abbrev HeldOnce : ℕ → Name → List Entry → Type 0
HeldOnce r p es = (is_engaged p es ≡ true) × ((t : ℕ) → is_held t p es ≡ true → r ≡ t)

-- who is held is engaged, and is held by one request
pub held_once : (i : Input) (es : List Entry) → IsHistory i es → (r : ℕ) (p : Name) → is_held r p es ≡ true → HeldOnce r p es
held_once i _ nothing r p o = absurd (cc)
held_once i _ (block es e h legal own) r p o =
    let w = step e.what (fits-legal i es e.what legal) (λ t. held_once i es h t p) (sym (held-block i es e r p) ∙ o) in
    (engaged-block i es e p ∙ w.0, λ t g. w.1 t (sym (held-block i es e t p) ∙ g))
  where
    dropped : (s : ℕ) (q : Name) → is_held s q es ≡ true → ((t : ℕ) → is_held t p es ≡ true → HeldOnce t p es)
        → unwrap_or (only_if ((r == s) && same_name p q) false) (is_held r p es) ≡ true
        → (unwrap_or (only_if (same_name p q) false) (is_engaged p es) ≡ true) × ((t : ℕ) → unwrap_or (only_if ((t == s) && same_name p q) false) (is_held t p es) ≡ true → r ≡ t)
    dropped s q has old o =
        let w = kept ((r == s) && same_name p q) (is_held r p es) o in
        let u = old r w.1 in (
          elim (cases_Bool (same_name p q)) [
            | inl t ↦
                let e = u.1 s (ap (λ n. is_held s n es) (same_name-is p q t) ∙ has) in
                clash ((r == s) && same_name p q) (and_from (r == s) (same_name p q) (eq-eqb r s e) t) w.0
            | inr t ↦ pick_no (same_name p q) false (is_engaged p es) t ∙ u.0
          ],
          λ t g. u.1 t (kept ((t == s) && same_name p q) (is_held t p es) g).1,
        )

    step : (e : Event) → row_allows i es e ≡ true → ((t : ℕ) → is_held t p es ≡ true → HeldOnce t p es) → unwrap_or (says_held r p e) (is_held r p es) ≡ true
        → (unwrap_or (says_engaged p e) (is_engaged p es) ≡ true) × ((t : ℕ) → unwrap_or (says_held t p e) (is_held t p es) ≡ true → r ≡ t)
    step (event.Offer s q) f old o =
        let free = (offer_says i es s q f).free in
        elim (picked ((r == s) && same_name p q) true (is_held r p es) true o) [
          | inl w ↦
              let same = at_one r s p q w.0 in (
                pick_yes (same_name p q) true (is_engaged p es) (and_parts (r == s) (same_name p q) w.0).1,
                λ t g. elim (picked ((t == s) && same_name p q) true (is_held t p es) true g) [
                  | inl v ↦ same.0 ∙ sym (at_one t s p q v.0).0
                  | inr v ↦ clash (is_engaged p es) (old t v.1).0 (ap (λ n. is_engaged n es) same.1 ∙ free)
                ],
              )
          | inr w ↦
              let u = old r w.1 in (
                stays (same_name p q) (is_engaged p es) u.0,
                λ t g. elim (picked ((t == s) && same_name p q) true (is_held t p es) true g) [
                  | inl v ↦ clash (is_engaged p es) u.0 (ap (λ n. is_engaged n es) (at_one t s p q v.0).1 ∙ free)
                  | inr v ↦ u.1 t v.1
                ],
              )
        ]
    step (event.Reject s q) f old o =
        let w = and_parts (has_offered s q es) _ f in
        let u = and_parts (not (is_rejected s q es)) _ w.1 in
        let v = (and_parts (not (is_confirmed s q es)) (is_some (confirmed s es) || is_for_cancelled s es) u.1).0 in
        let unfinished =
        false_from_ne_true (is_through s q es) (λ t. clash (is_confirmed s q es) (confirms s q es (through_confirmed i es h s q t)) (not-true (is_confirmed s q es) v)) in
        dropped s q (offered_held i es h s q w.0 (not-true (is_rejected s q es) u.0) unfinished) old o
    step (event.Finish s q ok) f old o =
        let works = finish_works i es s q ok f in
        dropped s q (confirmed_held i es h s q (working_confirmed i es h s q works) (working_unfinished i es h s q works)) old o
    step (event.Stopped s q) f old o =
        let w = and_parts (is_confirmed s q es) _ f in
        let u = and_parts (not (is_through s q es)) (is_for_cancelled s es) w.1 in
        dropped s q (confirmed_held i es h s q (confirmed_by q (confirmed s es) w.0) (not-true (is_through s q es) u.0)) old o
    step e f old o = old r o

-- ---- who is held

-- this performer offered, wasn't rejected and isn't through
abbrev Offering : ℕ → Name → List Entry → Type 0
Offering r p es = (has_offered r p es ≡ true) × (is_rejected r p es ≡ false) × (is_through r p es ≡ false)

-- who is held offered, wasn't rejected and isn't through
pub held_offering : (i : Input) (es : List Entry) → IsHistory i es → (r : ℕ) (p : Name) → is_held r p es ≡ true → Offering r p es
held_offering i _ nothing r p o = absurd (cc)
held_offering i _ (block es e h legal own) r p o =
    let w = step e.what (fits-legal i es e.what legal) (held_offering i es h r p) (sym (held-block i es e r p) ∙ o) in
    (offered-block i es e r p ∙ w.0, rejected-block i es e r p ∙ w.1, through-block i es e r p ∙ w.2)
  where
    still : (w : Offering r p es) (a b c : Bool) → b ≡ false → c ≡ false → ((has_offered r p es || a) ≡ true) × ((is_rejected r p es || b) ≡ false) × ((is_through r p es || c) ≡ false)
    still w a b c x y = (or_left (has_offered r p es) a w.0, or_from (is_rejected r p es) b w.1 x, or_from (is_through r p es) c w.2 y)

    step : (e : Event) → row_allows i es e ≡ true → (is_held r p es ≡ true → Offering r p es) → unwrap_or (says_held r p e) (is_held r p es) ≡ true
        → ((has_offered r p es || is_offer r p e) ≡ true) × ((is_rejected r p es || is_reject r p e) ≡ false) × ((is_through r p es || is_last r p e) ≡ false)
    step (event.Offer s q) f old o =
        elim (picked ((r == s) && same_name p q) true (is_held r p es) true o) [
          | inl w ↦
              let fresh = moved (λ t n. has_answered t n es) r s p q (at_one r s p q w.0) ∙ (offer_says i es s q f).fresh in
              let silent : has_offered r p es ≡ true → ⊥ = λ t. clash (has_answered r p es) (offered_answered i es h r p t) fresh in (
                or_right (has_offered r p es) ((r == s) && same_name p q) w.0,
                or_from (is_rejected r p es) false (false_from_ne_true (is_rejected r p es) (λ t. silent (rejected_offered i es h r p t))) refl,
                or_from (is_through r p es) false (false_from_ne_true (is_through r p es) (λ t. silent (confirmed_offered i es h r p (through_confirmed i es h r p t)))) refl,
              )
          | inr w ↦ still (old w.1) ((r == s) && same_name p q) false false refl refl
        ]
    step (event.Reject s q) f old o =
        let w = kept ((r == s) && same_name p q) (is_held r p es) o in still (old w.1) false ((r == s) && same_name p q) false w.0 refl
    step (event.Finish s q ok) f old o =
        let w = kept ((r == s) && same_name p q) (is_held r p es) o in still (old w.1) false false ((r == s) && same_name p q) refl w.0
    step (event.Stopped s q) f old o =
        let w = kept ((r == s) && same_name p q) (is_held r p es) o in still (old w.1) false false ((r == s) && same_name p q) refl w.0
    step e f old o = still (old o) (is_offer r p e) (is_reject r p e) (is_last r p e) refl refl

-- ---- engaged on a request

-- who is engaged on a request is held by it
on_held : (i : Input) (es : List Entry) → IsHistory i es → (r : ℕ) (p : Name) → is_engaged_on r p es ≡ true → is_held r p es ≡ true
on_held i es h r p o =
    elim (or_cases (has_offered r p es && (not (is_rejected r p es) && not (is_confirmed r p es))) (is_confirmed r p es && not (is_through r p es)) o) [
      | inl a ↦
          let w = and_parts (has_offered r p es) (not (is_rejected r p es) && not (is_confirmed r p es)) a in
          let u = and_parts (not (is_rejected r p es)) (not (is_confirmed r p es)) w.1 in
          let unfinished =
          false_from_ne_true (is_through r p es) (λ t. clash (is_confirmed r p es) (confirms r p es (through_confirmed i es h r p t)) (not-true (is_confirmed r p es) u.1)) in
          offered_held i es h r p w.0 (not-true (is_rejected r p es) u.0) unfinished
      | inr b ↦
          let w = and_parts (is_confirmed r p es) (not (is_through r p es)) b in
          confirmed_held i es h r p (confirmed_by p (confirmed r es) w.0) (not-true (is_through r p es) w.1)
    ]

-- who is held by a request is engaged on it
held_on : (i : Input) (es : List Entry) → IsHistory i es → (r : ℕ) (p : Name) → is_held r p es ≡ true → is_engaged_on r p es ≡ true
held_on i es h r p o = of_parts (has_offered r p es) (is_rejected r p es) (is_confirmed r p es) (is_through r p es) (held_offering i es h r p o)
  where
    of_parts : (offered rejected was_confirmed through : Bool) → (offered ≡ true) × (rejected ≡ false) × (through ≡ false)
        → ((offered && (not rejected && not was_confirmed)) || (was_confirmed && not through)) ≡ true
    of_parts true false true false w = refl
    of_parts true false false false w = refl
    of_parts false j c t w = absurd (true≢false (sym w.0))
    of_parts true true c t w = absurd (true≢false w.1)
    of_parts true false c true w = absurd (true≢false w.2)

pub engaged_on_one : EngagedOnOne
engaged_on_one i es h p = record {
  on_some = (
    λ e. let w = engaged_held i es h p e in (w.0, held_on i es h w.0 p w.3),
    λ w. (held_once i es h w.0 p (on_held i es h w.0 p w.1)).0,
  );
  on_one = λ r s a b. (held_once i es h r p (on_held i es h r p a)).1 s (on_held i es h s p b);
  planned = λ r a.
      let once = held_once i es h r p (on_held i es h r p a) in
      let w = engaged_held i es h p once.0 in
      (w.1, ap (λ t. act_of t es) (once.1 w.0 w.3) ∙ w.2);
}
