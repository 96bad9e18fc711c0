-- What histories keep of the requests for an act, and of the list of offers.
use Rattle.std.proofs.Common.{◌≡◌, ℕ, ◌<◌, ◌==◌, ◌&&◌, Bool, true, false, Some, List, [], ◌∷◌, arith, ap, sym, ◌∙◌, subst, inl, inr, ◌⊎◌}
use Rattle.std.specs.Option.{unwrap_or}
use Rattle.std.proofs.lemmas.Bool.{eqb-true, true≢false, or_cases, or_parts, and_parts, eq-eqb}
use Rattle.ps_world.specs.Names.{same_name}
use Rattle.ps_world.specs.declared.names.Name.{Name}
use Rattle.ps_world.proofs.Optionals.{none_not_some, some_same}
use Rattle.ps_action.proofs.Facts.{same_name-is}
use Rattle.ps_machine.specs.declared.inputs.Input.{Input}
use Rattle.ps_machine.specs.declared.journal.Event.{Event}
use Rattle.ps_machine.specs.declared.journal.Event.TheVariants as event
use Rattle.ps_machine.specs.declared.journal.Entry.{Entry}
use Rattle.ps_rules.specs.Reading.{only_if, with_last}
use Rattle.ps_rules.specs.Auctions.{act_of, has_offered, is_of_run, is_offer, is_unserved, offers, request_of, requests, says_act, says_of_run, says_offer, says_request, leaves_unserved}
use Rattle.ps_rules.specs.Legal.{is_act_active, may_be_put_up, row_allows}
use Rattle.ps_rules.specs.History.{IsHistory}
use Rattle.ps_rules.specs.History.IsHistory.{nothing, block}
use Rattle.ps_rules.proofs.Kept.{fits-legal}
use Rattle.ps_rules.proofs.Speaking.{untold}
use Rattle.ps_progress_laws.proofs.Blocks.{act-block, offered-block, offers-block, of_run-block, request-block, unserved-block}
use Rattle.ps_progress_laws.proofs.Offers.{numbered}
use Rattle.ps_progress_laws.proofs.Lists.{In, in_left, in_right}
use Rattle.ps_progress_laws.proofs.Picking.{below, by_test, clash, count_other, pick_no, pick_yes, picked}

-- a request of the run is there
pub run_numbered : (i : Input) (es : List Entry) → IsHistory i es → (r : ℕ) → is_of_run r es ≡ true → r < requests es
run_numbered i es h r o = below r (requests es) (λ le. true≢false (sym o ∙ (untold i es h r le).run))

-- a request for an act of the present plan is of the run
pub of_run : (i : Input) (es : List Entry) → IsHistory i es → (r act : ℕ) → act_of r es ≡ Some act → is_of_run r es ≡ true
of_run i _ nothing r act a = none_not_some act a
of_run i _ (block es e h legal own) r act a = of_run-block i es e r ∙ step e.what (of_run i es h r act) (sym (act-block i es e r) ∙ a)
  where
    step : (e : Event) → (act_of r es ≡ Some act → is_of_run r es ≡ true) → unwrap_or (says_act r e) (act_of r es) ≡ Some act → unwrap_or (says_of_run r e) (is_of_run r es) ≡ true
    step (event.Run for acts) old a = none_not_some act a
    step (event.Replan acts) old a = none_not_some act a
    step (event.Request s j) old a =
        elim (picked (r == s) (Some j) (act_of r es) (Some act) a) [
          | inl w ↦ pick_yes (r == s) true (is_of_run r es) w.0
          | inr w ↦ pick_no (r == s) true (is_of_run r es) w.0 ∙ old w.1
        ]
    step e old a = old a

-- the last request for an act is for it
pub asked : (i : Input) (es : List Entry) → IsHistory i es → (r act : ℕ) → request_of act es ≡ Some r → act_of r es ≡ Some act
asked i _ nothing r act a = none_not_some r a
asked i _ (block es e h legal own) r act a =
    act-block i es e r ∙ step e.what (fits-legal i es e.what legal) (asked i es h r act) (numbered i es h r act) (sym (request-block i es e act) ∙ a)
  where
    step : (e : Event) → row_allows i es e ≡ true → (request_of act es ≡ Some r → act_of r es ≡ Some act) → (act_of r es ≡ Some act → r < requests es)
        → unwrap_or (says_request act e) (request_of act es) ≡ Some r → unwrap_or (says_act r e) (act_of r es) ≡ Some act
    step (event.Run for acts) f old below a = none_not_some r a
    step (event.Replan acts) f old below a = none_not_some r a
    step (event.Request s j) f old below a =
        let n = eqb-true s (requests es) (and_parts (s == requests es) _ f).0 in
        elim (picked (act == j) (Some s) (request_of act es) (Some r) a) [
          | inl w ↦
              let same : s ≡ r = some_same s r w.1 in
              pick_yes (r == s) (Some j) (act_of r es) (eq-eqb r s (sym same)) ∙ ap Some (sym (eqb-true act j w.0))
          | inr w ↦
              let l = below (old w.1) in
              pick_no (r == s) (Some j) (act_of r es) (count_other r s (omega (arith, l, n))) ∙ old w.1
        ]
    step e f old below a = old a

-- a request for an act that isn't unserved is the last for it
pub last_one : (i : Input) (es : List Entry) → IsHistory i es → (r act : ℕ) → act_of r es ≡ Some act → is_unserved r es ≡ false → request_of act es ≡ Some r
last_one i _ nothing r act a u = none_not_some act a
last_one i _ (block es e h legal own) r act a u =
    request-block i es e act ∙ step e.what (fits-legal i es e.what legal) (last_one i es h r act) (sym (act-block i es e r) ∙ a) (or_parts (is_unserved r es) (leaves_unserved r e.what) (sym (unserved-block i es e r) ∙ u)).0
  where
    step : (e : Event) → row_allows i es e ≡ true → (act_of r es ≡ Some act → is_unserved r es ≡ false → request_of act es ≡ Some r)
        → unwrap_or (says_act r e) (act_of r es) ≡ Some act → is_unserved r es ≡ false → unwrap_or (says_request act e) (request_of act es) ≡ Some r
    step (event.Run for acts) f old a u = none_not_some act a
    step (event.Replan acts) f old a u = none_not_some act a
    step (event.Request s j) f old a u =
        let may = (and_parts (is_act_active es j) (may_be_put_up i es j (request_of j es)) (and_parts (s == requests es) _ f).1).1 in
        elim (picked (r == s) (Some j) (act_of r es) (Some act) a) [
          | inl w ↦ pick_yes (act == j) (Some s) (request_of act es) (eq-eqb act j (sym (some_same j act w.1))) ∙ ap Some (sym (eqb-true r s w.0))
          | inr w ↦
              let was = old w.1 u in
              by_test (act == j)
              (λ t.
              let put : (is_unserved r es && _) ≡ true = ap (may_be_put_up i es j) (sym (sym (ap (λ k. request_of k es) (eqb-true act j t)) ∙ was)) ∙ may in
              clash (is_unserved r es) (and_parts (is_unserved r es) _ put).0 u)
              (λ t. pick_no (act == j) (Some s) (request_of act es) t ∙ was)
        ]
    step e f old a u = old a u

-- ---- offers

-- who offered is among the offers
pub offered : (i : Input) (es : List Entry) → IsHistory i es → (r : ℕ) (p : Name) → has_offered r p es ≡ true → In p (offers r es)
offered i _ nothing r p o = absurd (cc)
offered i _ (block es e h legal own) r p o =
    subst (In p) (sym (offers-block i es e r)) (step e.what (or_cases (has_offered r p es) (is_offer r p e.what) (sym (offered-block i es e r p) ∙ o)) (offered i es h r p))
  where
    kept_in : (b : Bool) (q : Name) → In p (offers r es) → In p (with_last (offers r es) (only_if b q))
    kept_in true q h = in_left p (offers r es) (q ∷ []) h
    kept_in false q h = h

    last_in : (b : Bool) (q : Name) → b ≡ true → p ≡ q → In p (with_last (offers r es) (only_if b q))
    last_in true q t e = in_right p (offers r es) (q ∷ []) (inl e)
    last_in false q t e = absurd (cc)

    step : (e : Event) → (has_offered r p es ≡ true) ⊎ (is_offer r p e ≡ true) → (has_offered r p es ≡ true → In p (offers r es)) → In p (with_last (offers r es) (says_offer r e))
    step (event.Offer s q) (inl o) old = kept_in (r == s) q (old o)
    step (event.Offer s q) (inr o) old = let w = and_parts (r == s) (same_name p q) o in last_in (r == s) q w.0 (same_name-is p q w.1)
    step e (inl o) old = old o
    step e (inr o) old = absurd (true≢false (sym o))
