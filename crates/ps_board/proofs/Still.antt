-- Events after which no act is active: their blocks have one entry.
use Rattle.std.proofs.Common.{◌≡◌, ℕ, zero, suc, ◌+◌, ◌||◌, ◌&&◌, not, Bool, true, false, cond, if◌then◌else◌, List, [], ◌∷◌, ◌++◌, count_by, length, map, slice_index_or, refl, ap, arith, ◌∙◌}
use Rattle.ps_action.specs.declared.states.ActState.{ActState}
use Rattle.ps_action.specs.declared.states.ActState.TheVariants.{Waiting}
use Rattle.ps_machine.specs.declared.inputs.Input.{Input}
use Rattle.ps_machine.specs.declared.journal.Event.{Event}
use Rattle.ps_machine.specs.declared.journal.Entry.{Entry}
use Rattle.ps_machine.specs.declared.journal.CancelWhy.TheVariants as cancel
use Rattle.ps_rules.specs.Runs.{is_active, plan, state}
use Rattle.ps_rules.specs.Settled.{may_go_on}
use Rattle.ps_rules.specs.History.{any_of, broken, cancels, is_fail, unbroken}
use Rattle.ps_rules.specs.Choices.{with_block}
use Rattle.ps_monitor.proofs.Lists.{filter-none}
use Rattle.ps_ledger.specs.Ledger.{TellsAll}
use Rattle.ps_ledger.specs.declared.ledger.Ledger.{Ledger}
use Rattle.ps_board.specs.declared.whole.Parts.{Parts}
use Rattle.ps_board.proofs.Due.{after}
use Rattle.ps_board.proofs.Lengths.{counts-first}

both-off : (b : Bool) (n : ℕ) → cond b 1 0 + n ≡ 0 → (b ≡ false) × (n ≡ 0)
both-off true n h = absurd (omega (arith, h))
both-off false n h = (refl, omega (arith, h))

-- of states of which none is counted none is active
pub none-active : (states : List ActState) (k : ℕ) → count_by is_active states ≡ 0 → is_active (slice_index_or states k Waiting) ≡ false
none-active [] zero h = refl
none-active [] (suc k) h = refl
none-active (s ∷ states) zero h = (both-off (is_active s) (count_by is_active states) (counts-first (is_active s) s states refl ∙ h)).0
none-active (s ∷ states) (suc k) h = none-active states k (both-off (is_active s) (count_by is_active states) (counts-first (is_active s) s states refl ∙ h)).1

either-way : {A : Type 0} (b : Bool) (x : A) → (if b then x else x) ≡ x
either-way true x = refl
either-way false x = refl

-- where no act is active after an event, its block is that event alone
pub still-block : (i : Input) (es : List Entry) (hand : ℕ) (e : Event) → ((act : ℕ) → is_active (state act (es ++ record { hand = hand; what = e } ∷ [])) ≡ false)
    → with_block i hand es e ≡ es ++ record { hand = hand; what = e } ∷ []
still-block i es hand e still =
    let x : Entry = record { hand = hand; what = e } in
    let later : List Entry = es ++ x ∷ [] in
    let no-broken : broken i later ≡ [] =
    filter-none (λ act. is_active (state act later) && not (may_go_on i later act)) 0 (length (plan later)) (λ act. ap (λ b. b && not (may_go_on i later act)) (still act)) in
    let unsound : unbroken i later ≡ [] =
    filter-none (λ act. is_active (state act later) && may_go_on i later act) 0 (length (plan later)) (λ act. ap (λ b. b && may_go_on i later act) (still act)) in
    ap (λ xs. es ++ x ∷ (map (cancels hand cancel.OverAll) xs ++ (if is_fail e || any_of xs then map (cancels hand cancel.Stop) (unbroken i later) else []))) no-broken
    ∙ ap (λ xs. es ++ x ∷ (if is_fail e || false then map (cancels hand cancel.Stop) xs else [])) unsound
    ∙ ap (λ xs. es ++ x ∷ xs) (either-way {A = List Entry} (is_fail e || false) [])

-- so it is where a ledger that tells of it counts none
pub told-still : (c : Parts) (hand : ℕ) (e : Event) (b : Ledger) → TellsAll (after c hand e) b → count_by is_active b.acts.states.items ≡ 0
    → with_block c.input hand c.entries.items e ≡ after c hand e
told-still c hand e b told none =
    still-block c.input c.entries.items hand e (λ act. ap is_active (told.acts.states act) ∙ none-active b.acts.states.items act none)
