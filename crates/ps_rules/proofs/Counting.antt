-- Requests count up, and acts start once a plan.
use Rattle.std.proofs.Common.{◌≡◌, ℕ, suc, ◌+◌, ◌≤◌, ◌==◌, ◌&&◌, Bool, true, false, not, List, [], ◌∷◌, ◌++◌, IsTrue, if◌then◌else◌, refl, arith, ap, sym, ◌∙◌}
use Rattle.std.specs.List.{range_with_len}
use Rattle.std.specs.Option.{unwrap_or}
use Rattle.std.proofs.lemmas.Bool.{eqb-true, true≢false, and_parts}
use Rattle.ps_world.proofs.Counting.{range_from_more}
use Rattle.ps_machine.specs.declared.inputs.Input.{Input}
use Rattle.ps_action.specs.declared.states.ActState.{ActState}
use Rattle.ps_action.specs.declared.states.ActState.TheVariants.{Waiting, Active, Done, Failed, Cancelled}
use Rattle.ps_machine.specs.declared.journal.Event.{Event}
use Rattle.ps_machine.specs.declared.journal.Event.TheVariants as event
use Rattle.ps_machine.specs.declared.journal.Entry.{Entry}
use Rattle.ps_rules.specs.Reading.{all_said, only_if, times_since, with_last}
use Rattle.ps_rules.specs.Runs.{is_waiting, says_state, state}
use Rattle.ps_rules.specs.Auctions.{is_request, request_of, requests}
use Rattle.ps_rules.specs.Settled.{any_harmed, is_ready, is_startable}
use Rattle.ps_rules.specs.Legal.{row_allows, is_legal, is_act_active, is_place, may_be_put_up}
use Rattle.ps_rules.specs.Laws.{ActsStartOnce, is_cancel, is_start, makes_plan, RequestsCountUp, says_number}
use Rattle.ps_rules.specs.History.IsHistory.{nothing, block}
use Rattle.ps_rules.proofs.Pushed.{read-block, read-push}
use Rattle.ps_rules.proofs.Going.{by-entry}
use Rattle.ps_rules.proofs.Kept.{fits-legal}

-- ---- requests

counted-step : (i : Input) (es : List Entry) (e : Event) → all_said says_number es ≡ range_with_len 0 (requests es) → row_allows i es e ≡ true
    → with_last (all_said says_number es) (says_number e) ≡ range_with_len 0 (if is_request e then requests es + 1 else requests es)
counted-step i es (event.Request r act) h f =
    let same : r ≡ requests es = eqb-true r (requests es) (and_parts (r == requests es) (is_act_active es act && may_be_put_up i es act (request_of act es)) f).0 in
    let e : 0 + requests es ≡ r = omega (arith, same) in
    let more : suc (requests es) ≡ requests es + 1 = omega arith in
    ap (λ xs. xs ++ r ∷ []) h ∙ ap (λ x. range_with_len 0 (requests es) ++ x ∷ []) (sym e) ∙ sym (range_from_more 0 (requests es)) ∙ ap (range_with_len 0) more
counted-step i es e h f = h

pub requests_count_up : RequestsCountUp
requests_count_up i _ nothing = refl
requests_count_up i _ (block es e h legal hand) =
    rw (read-block (λ xs f. with_last xs (says_number f)) [] i es e (λ a act why. refl), read-block (λ n f. if is_request f then n + 1 else n) 0 i es e (λ a act why. refl))
    (counted-step i es e.what (requests_count_up i es h) (fits-legal i es e.what legal))

-- ---- starts

-- an act that waits wasn't started, and none was started twice
abbrev Once : ActState → ℕ → Type 0
Once s n = (is_waiting s ≡ true → n ≡ 0) × (n ≤ 1)

moved : (b : Bool) (s now : ActState) (n : ℕ) → Once s n → is_waiting now ≡ false → Once (unwrap_or (only_if b now) s) n
moved true s now n h busy = (λ w. absurd (true≢false (sym w ∙ busy)), h.1)
moved false s now n h busy = h

begun : (b : Bool) (s : ActState) (n : ℕ) → Once s n → (b ≡ true → is_waiting s ≡ true) → Once (unwrap_or (only_if b Active) s) (if b then n + 1 else n)
begun true s n h waits = let none : n ≡ 0 = h.0 (waits refl) in (λ w. absurd (true≢false (sym w)), omega (arith, none))
begun false s n h waits = h

once-step : (i : Input) (act n : ℕ) (es : List Entry) (e : Event) → Once (state act es) n → (is_cancel e ≡ false → IsTrue (is_legal i es e))
    → Once (unwrap_or (says_state act e) (state act es)) (if makes_plan e then 0 else (if is_start act e then n + 1 else n))
once-step i act n es (event.Run for new) h f = (λ w. refl, omega arith)
once-step i act n es (event.Replan new) h f = (λ w. refl, omega arith)
once-step i act n es (event.Start j) h f =
    let parts = and_parts (is_place es j) (is_ready i es j && (is_startable i es j && not (any_harmed es))) (fits-legal i es (event.Start j) (f refl)) in
    let ready = (and_parts (is_ready i es j) (is_startable i es j && not (any_harmed es)) parts.1).0 in
    begun (act == j) (state act es) n h (λ same. ap (λ t. is_waiting (state t es)) (eqb-true act j same) ∙ (and_parts (is_waiting (state j es)) _ ready).0)
once-step i act n es (event.End j) h f = moved (act == j) (state act es) Done n h refl
once-step i act n es (event.Fail j why) h f = moved (act == j) (state act es) Failed n h refl
once-step i act n es (event.Cancel j why) h f = moved (act == j) (state act es) Cancelled n h refl
once-step i act n es e h f = h

pub acts_start_once : ActsStartOnce
acts_start_once i es h act =
    (by-entry i (λ es. Once (state act es) (times_since makes_plan (is_start act) es)) (λ w. refl, omega arith)
    (λ es e old legal. rw (read-push (λ s f. unwrap_or (says_state act f) s) Waiting es e, read-push (λ n f. if makes_plan f then 0 else (if is_start act f then n + 1 else n)) 0 es e)
    (once-step i act (times_since makes_plan (is_start act) es) es e.what old legal)) es h).1
