-- Events that leave what is known, the plan and the states of its acts: their blocks have one entry.
use Rattle.std.proofs.Common.{◌≡◌, ℕ, ◌||◌, ◌&&◌, not, Bool, true, false, None, if◌then◌else◌, List, [], ◌∷◌, ◌++◌, length, map, refl, ap, ◌∙◌}
use Rattle.std.specs.Option.{unwrap_or}
use Rattle.ps_machine.specs.declared.inputs.Input.{Input}
use Rattle.ps_machine.specs.declared.journal.Event.{Event}
use Rattle.ps_machine.specs.declared.journal.Event.TheVariants as event
use Rattle.ps_machine.specs.declared.journal.Entry.{Entry}
use Rattle.ps_machine.specs.declared.journal.CancelWhy.TheVariants as cancel
use Rattle.ps_action.specs.declared.states.ActState.{ActState}
use Rattle.ps_action.specs.declared.states.ActState.TheVariants.{Waiting, Active, Done, Failed, Cancelled}
use Rattle.ps_rules.specs.Runs.{is_active, plan, says_plan, says_state, state}
use Rattle.ps_rules.specs.Known.{know}
use Rattle.ps_rules.specs.Settled.{may_go_on}
use Rattle.ps_rules.specs.Laws.{is_change}
use Rattle.ps_rules.specs.History.{any_of, broken, cancels, IsHistory, is_fail, unbroken}
use Rattle.ps_rules.specs.Choices.{with_block}
use Rattle.ps_rules.proofs.Going.{active_acts_may_go_on}
use Rattle.ps_rules.proofs.Pushed.{know-push, known_after-other, read-push}
use Rattle.ps_ledger.specs.Ledger.{HasSameMembers}
use Rattle.ps_ledger.specs.Legal.{HasMembersOf}
use Rattle.ps_ledger.specs.declared.ledger.Ledger.{Ledger}
use Rattle.ps_monitor.proofs.Lists.{filter-none}
use Rattle.ps_board.specs.Parts.{is_quiet}

quiet-plan : (e : Event) → is_quiet e ≡ true → says_plan e ≡ None
quiet-plan (event.Run for acts) h = absurd (cc)
quiet-plan (event.Replan acts) h = absurd (cc)
quiet-plan e h = refl

quiet-state : (act : ℕ) (e : Event) → is_quiet e ≡ true → says_state act e ≡ None
quiet-state act (event.Run for acts) h = absurd (cc)
quiet-state act (event.Replan acts) h = absurd (cc)
quiet-state act (event.Start j) h = absurd (cc)
quiet-state act (event.End j) h = absurd (cc)
quiet-state act (event.Fail j why) h = absurd (cc)
quiet-state act (event.Cancel j why) h = absurd (cc)
quiet-state act e h = refl

quiet-change : (e : Event) → is_quiet e ≡ true → is_change e ≡ false
quiet-change (event.Edit by edit) h = absurd (cc)
quiet-change (event.Start j) h = absurd (cc)
quiet-change (event.End j) h = absurd (cc)
quiet-change e h = refl

quiet-fail : (e : Event) → is_quiet e ≡ true → is_fail e ≡ false
quiet-fail (event.Fail j why) h = absurd (cc)
quiet-fail e h = refl

active-fine : (s : ActState) (b : Bool) → (s ≡ Active → b ≡ true) → (is_active s && not b) ≡ false
active-fine Active b h = ap not (h refl)
active-fine Waiting b h = refl
active-fine Done b h = refl
active-fine Failed b h = refl
active-fine Cancelled b h = refl

-- no active act is broken after one
none-broken : (i : Input) (es : List Entry) (x : Entry) → IsHistory i es → is_quiet x.what ≡ true → broken i (es ++ x ∷ []) ≡ []
none-broken i es x h q =
    let same : (act : ℕ) → state act (es ++ x ∷ []) ≡ state act es = λ act. read-push (λ a f. unwrap_or (says_state act f) a) Waiting es x ∙ ap (λ o. unwrap_or o (state act es)) (quiet-state act x.what q) in
    let plans : plan (es ++ x ∷ []) ≡ plan es = read-push (λ a f. unwrap_or (says_plan f) a) [] es x ∙ ap (λ o. unwrap_or o (plan es)) (quiet-plan x.what q) in
    let knows : know i (es ++ x ∷ []) ≡ know i es = know-push i es x ∙ known_after-other i.domain (plan es) (know i es) x.what (quiet-change x.what q) in
    let goes : (act : ℕ) → may_go_on i (es ++ x ∷ []) act ≡ may_go_on i es act = λ act. rw (knows, plans) refl in
    filter-none (λ act. is_active (state act (es ++ x ∷ [])) && not (may_go_on i (es ++ x ∷ []) act)) 0 (length (plan (es ++ x ∷ [])))
    (λ act. ap (λ s. is_active s && not (may_go_on i (es ++ x ∷ []) act)) (same act) ∙ ap (λ b. is_active (state act es) && not b) (goes act) ∙ active-fine (state act es) (may_go_on i es act) (active_acts_may_go_on i es h act))

pub quiet-block : (i : Input) (es : List Entry) (hand : ℕ) (e : Event) → IsHistory i es → is_quiet e ≡ true → with_block i hand es e ≡ es ++ record { hand = hand; what = e } ∷ []
quiet-block i es hand e h q =
    let x : Entry = record { hand = hand; what = e } in
    ap (λ xs. es ++ x ∷ (map (cancels hand cancel.OverAll) xs ++ (if is_fail e || any_of xs then map (cancels hand cancel.Stop) (unbroken i (es ++ x ∷ [])) else []))) (none-broken i es x h q)
    ∙ ap (λ b. es ++ x ∷ (if b || false then map (cancels hand cancel.Stop) (unbroken i (es ++ x ∷ [])) else [])) (quiet-fail e q)

-- members that are as they were are still those of the input
pub members-kept : (i : Input) (old new : Ledger) → HasSameMembers old new → HasMembersOf i old → HasMembersOf i new
members-kept i old new same h = record { performers = same.performers ∙ h.performers; observers = same.observers ∙ h.observers }
