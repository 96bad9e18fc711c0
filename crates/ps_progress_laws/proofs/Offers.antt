-- What histories keep of requests, offers and answers.
use Rattle.std.proofs.Common.{◌≡◌, ℕ, ◌<◌, ◌==◌, ◌&&◌, ◌||◌, Bool, true, false, not, Option, Some, None, is_none, is_some, List, [], ◌∷◌, if◌then◌else◌, refl, ap, sym, ◌∙◌, inl, inr, ◌⊎◌}
use Rattle.std.specs.Option.{option_map_or}
use Rattle.std.proofs.lemmas.Bool.{and_from, not-true, or_cases, or_left, or_right, true≢false, and_parts}
use Rattle.ps_world.specs.Names.{same_name}
use Rattle.ps_world.specs.declared.names.Name.{Name}
use Rattle.ps_world.proofs.SameTexts.{name_itself}
use Rattle.ps_world.proofs.Optionals.{none_not_some, some_same}
use Rattle.ps_action.specs.declared.states.ActState.TheVariants.{Active}
use Rattle.ps_action.proofs.Facts.{same_name-is}
use Rattle.ps_machine.specs.declared.inputs.Input.{Input}
use Rattle.ps_machine.specs.declared.members.Performer.{Performer}
use Rattle.ps_machine.specs.declared.journal.PassWhy.TheVariants as pass
use Rattle.ps_machine.specs.declared.journal.Event.{Event}
use Rattle.ps_machine.specs.declared.journal.Event.TheVariants as event
use Rattle.ps_machine.specs.declared.journal.Entry.{Entry}
use Rattle.ps_rules.specs.Reading.{only_if, with_last}
use Rattle.ps_rules.specs.Runs.{is_active, state}
use Rattle.ps_rules.specs.Auctions.{act_of, confirmed, first_offer, has_answered, has_offered, is_answer, is_engaged, is_for_active, is_offer, is_open, is_unserved, offers, requests, says_offer}
use Rattle.ps_rules.specs.Members.{matches_request, performer_of, performers}
use Rattle.ps_rules.specs.Legal.{pass_reason, row_allows}
use Rattle.ps_rules.specs.History.{IsHistory}
use Rattle.ps_rules.specs.History.IsHistory.{nothing, block}
use Rattle.ps_rules.specs.Laws.{all_confirmed, IsOnce}
use Rattle.ps_rules.proofs.Kept.{first_offer_wins}
use Rattle.ps_rules.proofs.Speaking.{untold}
use Rattle.ps_rules.proofs.Between.{active-so}
use Rattle.ps_progress_laws.proofs.Blocks.{answered-block, offered-block, offers-block}
use Rattle.ps_progress_laws.proofs.Picking.{below, found}

-- ---- numbers

-- a request for an act of the present plan is there
pub numbered : (i : Input) (es : List Entry) → IsHistory i es → (r act : ℕ) → act_of r es ≡ Some act → r < requests es
numbered i es h r act a = below r (requests es) (λ le. none_not_some act (sym (untold i es h r le).act ∙ a))

-- a request on which a performer offered is there
pub offered_numbered : (i : Input) (es : List Entry) → IsHistory i es → (r : ℕ) (p : Name) → has_offered r p es ≡ true → r < requests es
offered_numbered i es h r p o = below r (requests es) (λ le. true≢false (sym o ∙ (untold i es h r le).offered p))

-- ---- open requests

-- an open request is for an active act of the present plan, nobody is confirmed on it, and it isn't unserved
pub opens_for : (r : ℕ) (es : List Entry) → is_open r es ≡ true
    → (act : ℕ) × (act_of r es ≡ Some act) × (state act es ≡ Active) × (is_none (confirmed r es) ≡ true) × (is_unserved r es ≡ false)
opens_for r es h =
    let w = and_parts (is_for_active r es) (is_none (confirmed r es) && not (is_unserved r es)) h in
    let u = and_parts (is_none (confirmed r es)) (not (is_unserved r es)) w.1 in
    by_act (act_of r es) refl w.0 u.0 (not-true (is_unserved r es) u.1)
  where
    by_act : (o : Option ℕ) → act_of r es ≡ o → option_map_or (λ act. is_active (state act es)) o false ≡ true → is_none (confirmed r es) ≡ true → is_unserved r es ≡ false
        → (act : ℕ) × (act_of r es ≡ Some act) × (state act es ≡ Active) × (is_none (confirmed r es) ≡ true) × (is_unserved r es ≡ false)
    by_act None e a c u = absurd (cc)
    by_act (Some act) e a c u = (act, e, active-so (state act es) a, c, u)

-- what a legal offer says
pub record IsFreeOffer (i : Input) (es : List Entry) (r : ℕ) (p : Name) : Type 0 where
  pub member : is_some (performer_of i p) ≡ true
  pub fresh : has_answered r p es ≡ false
  pub opened : is_open r es ≡ true
  pub free : is_engaged p es ≡ false

-- a legal offer says so much
pub offer_says : (i : Input) (es : List Entry) (r : ℕ) (p : Name) → row_allows i es (event.Offer r p) ≡ true → IsFreeOffer i es r p
offer_says i es r p f = by_found (performer_of i p) refl f
  where
    by_reason : (a b c : Bool) → is_none (if not a then Some pass.Late else (if not b then Some pass.Other else (if c then Some pass.Busy else None))) ≡ true → (a ≡ true) × (c ≡ false)
    by_reason false b c n = absurd (cc)
    by_reason true false c n = absurd (cc)
    by_reason true true true n = absurd (cc)
    by_reason true true false n = (refl, refl)

    by_found : (o : Option Performer) → performer_of i p ≡ o → option_map_or (λ performer. not (has_answered r p es) && is_none (pass_reason performer r es)) o false ≡ true → IsFreeOffer i es r p
    by_found None e g = absurd (cc)
    by_found (Some x) e g =
        let w = and_parts (not (has_answered r p es)) (is_none (pass_reason x r es)) g in
        let u = by_reason (is_open r es) (matches_request x r es) (is_engaged x.name es) w.1 in
        let same : p ≡ x.name = same_name-is p x.name (found (λ performer. same_name p performer.name) (λ performer. true) (performers i) x e).0 in
        record { member = ap is_some e; fresh = not-true (has_answered r p es) w.0; opened = u.0; free = ap (λ n. is_engaged n es) same ∙ u.1 }

-- ---- offers

-- who offered answered
pub offered_answered : (i : Input) (es : List Entry) → IsHistory i es → (r : ℕ) (p : Name) → has_offered r p es ≡ true → has_answered r p es ≡ true
offered_answered i _ nothing r p o = absurd (cc)
offered_answered i _ (block es e h legal own) r p o =
    answered-block i es e r p ∙ step e.what (offered_answered i es h r p) (or_cases (has_offered r p es) (is_offer r p e.what) (sym (offered-block i es e r p) ∙ o))
  where
    step : (e : Event) → (has_offered r p es ≡ true → has_answered r p es ≡ true) → (has_offered r p es ≡ true) ⊎ (is_offer r p e ≡ true) → (has_answered r p es || is_answer r p e) ≡ true
    step e old (inl o) = or_left (has_answered r p es) (is_answer r p e) (old o)
    step (event.Offer s q) old (inr o) = or_right (has_answered r p es) ((r == s) && same_name p q) o
    step e old (inr o) = absurd (true≢false (sym o))

first_after : (os : List Name) (b : Bool) (q p : Name) → first_offer (with_last os (only_if b q)) ≡ Some p → (first_offer os ≡ Some p) ⊎ ((b ≡ true) × (q ≡ p))
first_after os false q p e = inl e
first_after [] true q p e = inr (refl, some_same q p e)
first_after (x ∷ os) true q p e = inl e

-- who made the first offer offered
first_offered : (i : Input) (es : List Entry) → IsHistory i es → (r : ℕ) (p : Name) → first_offer (offers r es) ≡ Some p → has_offered r p es ≡ true
first_offered i _ nothing r p o = none_not_some p o
first_offered i _ (block es e h legal own) r p o =
    offered-block i es e r p ∙ step e.what (first_offered i es h r p) (ap first_offer (sym (offers-block i es e r)) ∙ o)
  where
    step : (e : Event) → (first_offer (offers r es) ≡ Some p → has_offered r p es ≡ true) → first_offer (with_last (offers r es) (says_offer r e)) ≡ Some p → (has_offered r p es || is_offer r p e) ≡ true
    step (event.Offer s q) old o =
        elim (first_after (offers r es) (r == s) q p o) [
          | inl f ↦ or_left (has_offered r p es) ((r == s) && same_name p q) (old f)
          | inr w ↦ or_right (has_offered r p es) ((r == s) && same_name p q) (and_from (r == s) (same_name p q) w.0 (ap (same_name p) w.1 ∙ name_itself p))
        ]
    step e old o = or_left (has_offered r p es) (is_offer r p e) (old o)

once_first : (cs : List Name) (now : Option Name) (os : List Name) (p : Name) → IsOnce cs now os → now ≡ Some p → first_offer os ≡ Some p
once_first [] now os p h c = none_not_some p (sym h ∙ c)
once_first (q ∷ []) now os p h c = h.1 ∙ sym h.0 ∙ c
once_first (q ∷ s ∷ ps) now os p h c = absurd h

-- who was confirmed offered
pub confirmed_offered : (i : Input) (es : List Entry) → IsHistory i es → (r : ℕ) (p : Name) → confirmed r es ≡ Some p → has_offered r p es ≡ true
confirmed_offered i es h r p c = first_offered i es h r p (once_first (all_confirmed r es) (confirmed r es) (offers r es) p (first_offer_wins i es h r) c)
