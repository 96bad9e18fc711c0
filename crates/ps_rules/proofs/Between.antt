-- Between runs no act is active, and so the terminal's events force no cancels.
use Rattle.std.proofs.Common.{◌≡◌, ℕ, zero, suc, ◌+◌, ◌<◌, ◌≤◌, ◌==◌, ◌&&◌, ◌||◌, Bool, true, false, not, List, [], ◌∷◌, ◌++◌, IsTrue, if◌then◌else◌, filter, length, refl, arith, ap, sym, ◌∙◌}
use Rattle.std.specs.List.{list_all, range_with_len}
use Rattle.std.specs.Option.{unwrap_or}
use Rattle.std.proofs.lemmas.Bool.{eqb-true, ltb-true, true≢false, and_parts}
use Rattle.std.proofs.lemmas.Bool.Decides.{nat_tests}
use Rattle.ps_action.specs.declared.states.ActState.{ActState}
use Rattle.ps_action.specs.declared.states.ActState.TheVariants.{Waiting, Active, Done, Failed, Cancelled}
use Rattle.ps_machine.specs.declared.inputs.Input.{Input}
use Rattle.ps_machine.specs.declared.journal.By.TheVariants as by
use Rattle.ps_machine.specs.declared.journal.Event.{Event}
use Rattle.ps_machine.specs.declared.journal.Event.TheVariants as event
use Rattle.ps_machine.specs.declared.journal.Entry.{Entry}
use Rattle.ps_rules.specs.Runs.{is_active, is_done, is_running, plan, says_open, says_state, state}
use Rattle.ps_rules.specs.Auctions.{is_engaged}
use Rattle.ps_rules.specs.Lines.{answers_line}
use Rattle.ps_rules.specs.Members.{performers}
use Rattle.ps_rules.specs.Settled.{any_harmed, is_blocked, is_settled, may_go_on, places, verdict}
use Rattle.ps_rules.specs.Legal.{ending, is_legal, is_outcome, row_allows, same_flag}
use Rattle.ps_rules.specs.History.{forced}
use Rattle.ps_rules.specs.History.IsHistory.{nothing, block}
use Rattle.ps_rules.specs.Laws.{LinesForceNothing, NoneIsActiveBetweenRuns}
use Rattle.ps_rules.proofs.Pushed.{read-block, read-push}
use Rattle.ps_rules.proofs.Kept.{fits-legal}
use Rattle.ps_rules.proofs.Going.{IsPlaced, not_active, placed, still-block}

-- ---- states and ranges

pub active-so : (s : ActState) → is_active s ≡ true → s ≡ Active
active-so Active h = refl
active-so Waiting h = absurd (cc)
active-so Done h = absurd (cc)
active-so Failed h = absurd (cc)
active-so Cancelled h = absurd (cc)

-- a state that isn't active, since it would have to be
inactive-where : (s : ActState) → (s ≡ Active → ⊥) → is_active s ≡ false
inactive-where Active h = absurd (h refl)
inactive-where Waiting h = refl
inactive-where Done h = refl
inactive-where Failed h = refl
inactive-where Cancelled h = refl

-- what holds of each number of a range holds of one
at-range : (test : ℕ → Bool) (act start n : ℕ) → start ≤ act → act < start + n → list_all test (range_with_len start n) ≡ true → test act ≡ true
at-range test act start zero low high h = absurd (omega (arith, low, high))
at-range test act start (suc n) low high h =
    let parts = and_parts (test start) (list_all test (range_with_len (start + 1) n)) h in
    let cases : (b : Bool) → (act == start) ≡ b → test act ≡ true =
    λ b. elim b as (λ b. (act == start) ≡ b → test act ≡ true) [
      | true ↦ λ same. ap test (eqb-true act start same) ∙ parts.0
      | false ↦ λ other. at-range test act (start + 1) n (grind (arith, nat_tests)) (omega (arith, high)) parts.1
    ] in
    cases (act == start) refl

-- ---- no act is active

-- no legal event but an end leaves no run open where one was, and none but the terminal's is legal where none was
shut : (live fit : Bool) → live ≡ false → (same_flag false (not live) && fit) ≡ true → ⊥
shut true fit closed h = true≢false closed
shut false fit closed h = true≢false (sym h)

quiet-over : (i : Input) (act : ℕ) (es : List Entry) → IsPlaced act es → is_settled i es ≡ true → state act es ≡ Active → ⊥
quiet-over i act es placed settled active =
    let rest : Bool =
    list_all (λ p. not (is_engaged p.name es)) (performers i)
    && (any_harmed es || (list_all (λ a. is_done (state a es)) (places es) || is_blocked i es)) in
    let all = (and_parts (list_all (λ a. not (is_active (state a es))) (places es)) rest settled).0 in
    let within : act < length (plan es) = ltb-true act (length (plan es)) (placed active) in
    let none = at-range (λ a. not (is_active (state a es))) act 0 (length (plan es)) (omega arith) (omega (arith, within)) all in
    true≢false (sym none ∙ ap (λ s. not (is_active s)) active)

quiet-step : (i : Input) (act : ℕ) (es : List Entry) (e : Event) → IsPlaced act es → (is_running es ≡ false → is_active (state act es) ≡ false)
    → IsTrue (is_legal i es e) → unwrap_or (says_open e) (is_running es) ≡ false → unwrap_or (says_state act e) (state act es) ≡ Active → ⊥
quiet-step i act es (event.Run for acts) p h legal closed active = true≢false closed
quiet-step i act es (event.Over how) p h legal closed active =
    let settled = (and_parts (is_settled i es) (is_outcome how (ending i es (verdict i es))) (fits-legal i es (event.Over how) legal)).0 in
    quiet-over i act es p settled active
quiet-step i act es (event.Edit (by.Terminal n) edit) p h legal closed active = not_active (state act es) (h closed) active
quiet-step i act es (event.Refused (by.Terminal n) why) p h legal closed active = not_active (state act es) (h closed) active
quiet-step i act es (event.Ask q) p h legal closed active = not_active (state act es) (h closed) active
quiet-step i act es event.Quit p h legal closed active = not_active (state act es) (h closed) active
quiet-step i act es e p h legal closed active = shut (is_running es) (row_allows i es e) closed legal

pub none_is_active_between_runs : NoneIsActiveBetweenRuns
none_is_active_between_runs i _ nothing closed act = refl
none_is_active_between_runs i _ (block es e h legal hand) closed act =
    let now : unwrap_or (says_open e.what) (is_running es) ≡ false =
    sym (read-block (λ a f. unwrap_or (says_open f) a) false i es e (λ a b why. refl)) ∙ closed in
    inactive-where (state act (es ++ e ∷ forced i es e)) (λ active.
    let mine = sym (read-push (λ s f. unwrap_or (says_state act f) s) Waiting es e) ∙ (still-block i act es e active).0 in
    quiet-step i act es e.what (placed i es h act) (λ c. none_is_active_between_runs i es h c act) legal now mine)

-- ---- no cancels

pub filter-none : (test : ℕ → Bool) → ((n : ℕ) → test n ≡ false) → (ns : List ℕ) → filter test ns ≡ []
filter-none test none [] = refl
filter-none test none (n ∷ ns) = rw (none n) (filter-none test none ns)

pub either-way : (b : Bool) (es : List Entry) → (if b then es else es) ≡ es
either-way true es = refl
either-way false es = refl

-- where the event leaves no act active, it forces no cancels
pub unforced : (i : Input) (es : List Entry) (e : Entry) → ((act : ℕ) → is_active (state act (es ++ e ∷ [])) ≡ false) → forced i es e ≡ []
unforced i es e none =
    let after : List Entry = es ++ e ∷ [] in
    let broken = filter-none (λ act. is_active (state act after) && not (may_go_on i after act)) (λ act. rw (none act) refl) (places after) in
    let sound = filter-none (λ act. is_active (state act after) && may_go_on i after act) (λ act. rw (none act) refl) (places after) in
    rw (broken, sound) (either-way _ [])

-- what is left of an answered line's event
line-step : (i : Input) (act : ℕ) (es : List Entry) (e : Event) → answers_line e ≡ true → is_active (state act es) ≡ false
    → is_active (unwrap_or (says_state act e) (state act es)) ≡ false
line-step i act es (event.Edit (by.Terminal n) edit) own h = h
line-step i act es (event.Refused (by.Terminal n) why) own h = h
line-step i act es (event.Ask q) own h = h
line-step i act es (event.Run for acts) own h = refl
line-step i act es event.Quit own h = h
line-step i act es e own h = absurd (true≢false (sym own))

closed-so : (own live fit : Bool) → own ≡ true → (same_flag own (not live) && fit) ≡ true → live ≡ false
closed-so true false fit o h = refl
closed-so true true fit o h = absurd (true≢false (sym h))
closed-so false live fit o h = absurd (true≢false (sym o))

pub lines_force_nothing : LinesForceNothing
lines_force_nothing i es e h legal own =
    let closed = closed-so (answers_line e.what) (is_running es) (row_allows i es e.what) own legal in
    unforced i es e (λ act.
    ap is_active (read-push (λ s f. unwrap_or (says_state act f) s) Waiting es e)
    ∙ line-step i act es e.what own (none_is_active_between_runs i es h closed act))
