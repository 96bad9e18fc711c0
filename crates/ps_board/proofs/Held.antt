-- Before an event no act was broken that is watched after it, but for one that it starts.
use Rattle.std.proofs.Common.{◌≡◌, ℕ, ◌==◌, ◌&&◌, not, Bool, true, false, if◌then◌else◌, Option, None, List, refl, ap, sym, subst, ◌∙◌}
use Rattle.std.specs.Option.{unwrap_or}
use Rattle.ps_world.specs.declared.domains.Domain.{Domain}
use Rattle.ps_world.specs.declared.known.Knowledge.{Knowledge}
use Rattle.ps_action.specs.Truth.{all_true}
use Rattle.ps_action.specs.declared.acts.GroundAction.{GroundAction}
use Rattle.ps_action.specs.declared.states.ActState.{ActState}
use Rattle.ps_action.specs.declared.states.ActState.TheVariants.{Active, Done, Failed, Cancelled}
use Rattle.ps_action.specs.declared.touched.Touched.{Touched}
use Rattle.ps_machine.specs.declared.journal.Event.{Event}
use Rattle.ps_machine.specs.declared.journal.Event.TheVariants as event
use Rattle.ps_machine.specs.declared.journal.Entry.{Entry}
use Rattle.ps_rules.specs.Reading.{only_if}
use Rattle.ps_rules.specs.Runs.{is_active, plan, says_plan, says_state, state}
use Rattle.ps_rules.specs.Known.{grounds, know}
use Rattle.ps_rules.proofs.Between.{active-so}
use Rattle.ps_rules.proofs.Going.{active_acts_may_go_on}
use Rattle.ps_monitor.specs.Hits.{but_for, HeldBefore, is_started}
use Rattle.ps_monitor.specs.Naming.{NamesChange}
use Rattle.ps_monitor.specs.Watched.{is_false, watched}
use Rattle.ps_board.specs.declared.whole.Parts.{Parts}
use Rattle.ps_board.specs.Parts.{IsDue, over_in, watch_for}
use Rattle.ps_board.specs.Touching.{started_by, touched_by}
use Rattle.ps_board.proofs.Forced.{false-for}
use Rattle.ps_board.proofs.Touching.{change-named}

-- ---- one act

-- its condition held, if it was active
abbrev Held : Domain → Knowledge → List GroundAction → ℕ → ActState → Type 0
Held d k gs act s = is_active s ≡ true → all_true d k (over_in gs act) ≡ true

fine : (b t : Bool) → (b ≡ true → t ≡ true) → (b && not t) ≡ false
fine true t h = ap not (h refl)
fine false t h = refl

still : (d : Domain) (k : Knowledge) (gs : List GroundAction) (act : ℕ) (s : ActState) → Held d k gs act s → is_false d k (watch_for gs act s) ≡ false
still d k gs act s h = false-for (is_active s) d k (over_in gs act) ∙ fine (is_active s) (all_true d k (over_in gs act)) h

-- where an event moves one act to another state
moved : (d : Domain) (k : Knowledge) (gs : List GroundAction) (act : ℕ) (s to : ActState) (t : Bool) → is_active to ≡ false → Held d k gs act s
    → is_false d k (watch_for gs act (unwrap_or (only_if t to) s)) ≡ false
moved d k gs act s to true idle h = false-for (is_active to) d k (over_in gs act) ∙ ap (λ b. b && not (all_true d k (over_in gs act))) idle
moved d k gs act s to false idle h = still d k gs act s h

begun : (d : Domain) (k : Knowledge) (gs : List GroundAction) (act : ℕ) (s : ActState) (t : Bool) → Held d k gs act s
    → is_false d k (if t then None else watch_for gs act (unwrap_or (only_if t Active) s)) ≡ false
begun d k gs act s true h = refl
begun d k gs act s false h = still d k gs act s h

-- what is watched after an event held before it
held-on : (d : Domain) (k : Knowledge) (gs : List GroundAction) (e : Event) (act : ℕ) (s : ActState) → (says_plan e ≡ None → Held d k gs act s)
    → is_false d k (if is_started (started_by e) act then None else watch_for gs act (unwrap_or (says_state act e) s)) ≡ false
held-on d k gs (event.Run for acts) act s h = refl
held-on d k gs (event.Replan acts) act s h = refl
held-on d k gs (event.Start j) act s h = begun d k gs act s (act == j) (h refl)
held-on d k gs (event.End j) act s h = moved d k gs act s Done (act == j) refl (h refl)
held-on d k gs (event.Fail j why) act s h = moved d k gs act s Failed (act == j) refl (h refl)
held-on d k gs (event.Cancel j why) act s h = moved d k gs act s Cancelled (act == j) refl (h refl)
held-on d k gs e act s h = still d k gs act s (h refl)

-- ---- where a block is due

went-on : (c : Parts) (hand : ℕ) (e : Event) (act : ℕ) → IsDue c hand e → says_plan e ≡ None → Held c.state.expert (know c.input c.entries.items) c.state.grounds.items act (state act c.entries.items)
went-on c hand e act d plans active =
    let es : List Entry = c.entries.items in
    let k : Knowledge = know c.input es in
    let same : c.state.grounds.items ≡ grounds c.input.domain (plan es) = d.kept.grounds ∙ ap (λ o. grounds c.input.domain (unwrap_or o (plan es))) plans in
    ap (λ x. all_true x k (over_in c.state.grounds.items act)) d.kept.domain
    ∙ ap (λ gs. all_true c.input.domain k (over_in gs act)) same
    ∙ active_acts_may_go_on c.input es d.history act (active-so (state act es) active)

-- the acts that an event may have broken are found by what it changed and by what it starts
pub held-before : (c : Parts) (hand : ℕ) (e : Event) (changed : List Touched) (started : Option ℕ) → IsDue c hand e → changed ≡ touched_by c.state.grounds.items e → started ≡ started_by e
    → HeldBefore c.state.expert c.state.problem (but_for started (watched c.monitor)) changed
held-before c hand e changed started d all is =
    let es : List Entry = c.entries.items in
    let k : Knowledge = know c.input es in
    let gs : List GroundAction = c.state.grounds.items in
    record {
      before = k;
      named = subst (λ ts. NamesChange ts k c.state.problem) (sym all)
          (subst (NamesChange (touched_by gs e) k) (sym d.kept.known) (change-named c.input.domain (plan es) k e gs d.kept.grounds));
      held = λ act low unhit broken.
          ap (λ o. is_false c.state.expert k (but_for o (watched c.monitor) act)) is
          ∙ ap (λ w. is_false c.state.expert k (if is_started (started_by e) act then None else w)) (d.watching act)
          ∙ held-on c.state.expert k gs e act (state act es) (went-on c hand e act d);
    }
