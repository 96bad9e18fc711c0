-- What is watched before an event and after.
use Rattle.std.proofs.Common.{◌≡◌, ◌≢◌, ℕ, zero, suc, ◌<◌, ◌==◌, ◌&&◌, not, Bool, true, false, if◌then◌else◌, Option, Some, None, IsTrue, List, [], ◌∷◌, length, slice_get, slice_index_or, refl, ap, sym, arith, ◌∙◌}
use Rattle.std.proofs.lemmas.Bool.{eqb-true, and_parts}
use Rattle.std.proofs.lemmas.Bool.Decides.{nat_tests}
use Rattle.std.specs.Option.{option_map_or, unwrap_or}
use Rattle.ps_world.specs.Trees.{CondTree}
use Rattle.ps_action.specs.declared.acts.GroundAction.{GroundAction}
use Rattle.ps_action.specs.declared.states.ActState.{ActState}
use Rattle.ps_action.specs.declared.states.ActState.TheVariants.{Active, Waiting, Done, Failed, Cancelled}
use Rattle.ps_machine.specs.declared.inputs.Input.{Input}
use Rattle.ps_machine.specs.declared.journal.Event.{Event}
use Rattle.ps_machine.specs.declared.journal.Event.TheVariants as event
use Rattle.ps_machine.specs.declared.journal.Entry.{Entry}
use Rattle.ps_rules.specs.Reading.{only_if}
use Rattle.ps_rules.specs.Runs.{is_active, is_waiting, plan, says_plan, says_state, state}
use Rattle.ps_rules.specs.Known.{grounds}
use Rattle.ps_rules.specs.Settled.{any_harmed, is_ready, is_startable}
use Rattle.ps_rules.specs.Legal.{is_legal, is_place}
use Rattle.ps_rules.proofs.Kept.{fits-legal}
use Rattle.ps_ledger.proofs.Lists.{differ}
use Rattle.ps_monitor.specs.declared.monitor.Monitor.{Monitor}
use Rattle.ps_monitor.specs.Watched.{watched}
use Rattle.ps_board.specs.Parts.{over_in, watch_for}
use Rattle.ps_board.specs.Watching.{IsWatchedAs, StartsWithin, watched_after, watched_from, watched_without}

-- ---- one act

pub get-there : {A : Type 0} (xs : List A) (k : ℕ) (d : A) → k < length xs → slice_get xs k ≡ Some (slice_index_or xs k d)
get-there [] k d lt = absurd (omega (arith, lt))
get-there (x ∷ xs) zero d lt = refl
get-there (x ∷ xs) (suc k) d lt = get-there xs k d (omega (arith, lt))

-- an act is watched with this, and each other one as it was
one-set : (m new : Monitor) (act k : ℕ) (over : Option (List CondTree)) (t : Bool) → (k == act) ≡ t → watched new act ≡ over
    → (k ≢ act → watched new k ≡ watched m k) → watched new k ≡ (if t then over else watched m k)
one-set m new act k over true e on others = ap (watched new) (eqb-true k act e) ∙ on
one-set m new act k over false e on others = others (differ k act e)

over-got : (gs : List GroundAction) (act k : ℕ) (g : GroundAction) (t : Bool) (old : Option (List CondTree)) → (k == act) ≡ t → slice_get gs act ≡ Some g
    → (if t then Some g.conditions.over_all else old) ≡ (if t then Some (over_in gs k) else old)
over-got gs act k g true old e is = ap Some (sym (ap (λ j. over_in gs j) (eqb-true k act e) ∙ ap (λ o. option_map_or (λ h. h.conditions.over_all) o []) is))
over-got gs act k g false old e is = refl

pub started-set : (gs : List GroundAction) (m new : Monitor) (act : ℕ) (g : GroundAction) → slice_get gs act ≡ Some g
    → watched new act ≡ Some g.conditions.over_all → ((k : ℕ) → k ≢ act → watched new k ≡ watched m k)
    → IsWatchedAs new (watched_from (event.Start act) gs m)
started-set gs m new act g is on others = λ k.
    one-set m new act k (Some g.conditions.over_all) (k == act) refl on (others k) ∙ over-got gs act k g (k == act) (watched m k) refl is

pub one-off : (m new : Monitor) (act : ℕ) → watched new act ≡ None → ((k : ℕ) → k ≢ act → watched new k ≡ watched m k)
    → (k : ℕ) → watched new k ≡ (if k == act then None else watched m k)
one-off m new act off others = λ k. one-set m new act k None (k == act) refl off (others k)

-- ---- an event

started-on : (gs : List GroundAction) (act : ℕ) (s : ActState) (old : Option (List CondTree)) (t : Bool) → old ≡ watch_for gs act s
    → (if t then Some (over_in gs act) else old) ≡ watch_for gs act (unwrap_or (only_if t Active) s)
started-on gs act s old true h = refl
started-on gs act s old false h = h

ended-off : (gs : List GroundAction) (act : ℕ) (s to : ActState) (old : Option (List CondTree)) (t : Bool) → is_active to ≡ false → old ≡ watch_for gs act s
    → (if t then None else old) ≡ watch_for gs act (unwrap_or (only_if t to) s)
ended-off gs act s to old true idle h = sym (ap (λ b. if b then Some (over_in gs act) else None) idle)
ended-off gs act s to old false idle h = h

-- where exactly the active acts were watched they are after an event, of whatever state it says they are in
watch-next : (e : Event) (gs new : List GroundAction) (m mid : Monitor) (act : ℕ) (s : ActState) → (says_plan e ≡ None → new ≡ gs) → watched m act ≡ watch_for gs act s
    → watched mid act ≡ watched_from e gs m act → watched_after e mid act ≡ watch_for new act (unwrap_or (says_state act e) s)
watch-next (event.Run for acts) gs new m mid act s same old mids = refl
watch-next (event.Replan acts) gs new m mid act s same old mids = refl
watch-next (event.Start j) gs new m mid act s same old mids =
    mids ∙ started-on gs act s (watched m act) (act == j) old ∙ ap (λ xs. watch_for xs act (unwrap_or (only_if (act == j) Active) s)) (sym (same refl))
watch-next (event.End j) gs new m mid act s same old mids =
    ended-off gs act s Done (watched mid act) (act == j) refl (mids ∙ old) ∙ ap (λ xs. watch_for xs act (unwrap_or (only_if (act == j) Done) s)) (sym (same refl))
watch-next (event.Fail j why) gs new m mid act s same old mids =
    ended-off gs act s Failed (watched mid act) (act == j) refl (mids ∙ old) ∙ ap (λ xs. watch_for xs act (unwrap_or (only_if (act == j) Failed) s)) (sym (same refl))
watch-next (event.Cancel j why) gs new m mid act s same old mids =
    ended-off gs act s Cancelled (watched mid act) (act == j) refl (mids ∙ old) ∙ ap (λ xs. watch_for xs act (unwrap_or (only_if (act == j) Cancelled) s)) (sym (same refl))
watch-next e gs new m mid act s same old mids = mids ∙ old ∙ ap (λ xs. watch_for xs act s) (sym (same refl))

pub same-grounds : (i : Input) (es : List Entry) (e : Event) (gs new : List GroundAction) → gs ≡ grounds i.domain (plan es)
    → new ≡ grounds i.domain (unwrap_or (says_plan e) (plan es)) → says_plan e ≡ None → new ≡ gs
same-grounds i es e gs new old next still = next ∙ ap (λ o. grounds i.domain (unwrap_or o (plan es))) still ∙ sym old

pub watches-next : (i : Input) (es : List Entry) (e : Event) (gs new : List GroundAction) (m mid after : Monitor) → gs ≡ grounds i.domain (plan es)
    → new ≡ grounds i.domain (unwrap_or (says_plan e) (plan es)) → ((act : ℕ) → watched m act ≡ watch_for gs act (state act es))
    → IsWatchedAs mid (watched_from e gs m) → IsWatchedAs after (watched_after e mid)
    → (act : ℕ) → watched after act ≡ watch_for new act (unwrap_or (says_state act e) (state act es))
watches-next i es e gs new m mid after old next watching from last = λ act.
    last act ∙ watch-next e gs new m mid act (state act es) (same-grounds i es e gs new old next) (watching act) (from act)

-- ---- an event that could not be taken

idle : (s : ActState) → is_waiting s ≡ true → is_active s ≡ false
idle Waiting h = refl
idle Active h = absurd (cc)
idle Done h = refl
idle Failed h = refl
idle Cancelled h = refl

-- the act that a legal event starts isn't active
pub start-waits : (i : Input) (es : List Entry) (act : ℕ) → IsTrue (is_legal i es (event.Start act)) → is_active (state act es) ≡ false
start-waits i es act legal =
    let fit = and_parts (is_place es act) (is_ready i es act && (is_startable i es act && not (any_harmed es))) (fits-legal i es (event.Start act) legal) in
    let ready = and_parts (is_ready i es act) (is_startable i es act && not (any_harmed es)) fit.1 in
    idle (state act es) (and_parts (is_waiting (state act es)) _ ready.0).0

-- and it is in the plan
pub start-there : (i : Input) (es : List Entry) (e : Event) (n : ℕ) → n ≡ length (plan es) → IsTrue (is_legal i es e) → StartsWithin n e
start-there i es (event.Start act) n long legal =
    let fit = (and_parts (is_place es act) (is_ready i es act && (is_startable i es act && not (any_harmed es))) (fits-legal i es (event.Start act) legal)).0 in
    grind (arith, nat_tests, fit, long)
start-there i es e n long legal = tt

off-again : (gs : List GroundAction) (act k : ℕ) (old : Option (List CondTree)) (s : ℕ → ActState) (t : Bool) → (act == k) ≡ t → is_active (s k) ≡ false
    → old ≡ watch_for gs act (s act) → (if t then None else (if t then Some (over_in gs act) else old)) ≡ old
off-again gs act k old s true e idle h =
    sym (h ∙ ap (λ b. if b then Some (over_in gs act) else None) (ap (λ j. is_active (s j)) (eqb-true act k e) ∙ idle))
off-again gs act k old s false e idle h = refl

undone : (i : Input) (es : List Entry) (e : Event) (gs : List GroundAction) (m mid : Monitor) (act : ℕ) → IsTrue (is_legal i es e)
    → watched m act ≡ watch_for gs act (state act es) → watched mid act ≡ watched_from e gs m act → watched_without e mid act ≡ watched m act
undone i es (event.Start j) gs m mid act legal old from =
    ap (λ o. if act == j then None else o) from ∙ off-again gs act j (watched m act) (λ k. state k es) (act == j) refl (start-waits i es j legal) old
undone i es e gs m mid act legal old from = from

-- what was watched is watched again
pub watches-again : (i : Input) (es : List Entry) (e : Event) (gs : List GroundAction) (m mid after : Monitor) → IsTrue (is_legal i es e)
    → ((act : ℕ) → watched m act ≡ watch_for gs act (state act es)) → IsWatchedAs mid (watched_from e gs m) → IsWatchedAs after (watched_without e mid)
    → IsWatchedAs after (watched m)
watches-again i es e gs m mid after legal watching from last = λ act. last act ∙ undone i es e gs m mid act legal (watching act) (from act)
