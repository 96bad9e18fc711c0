-- That somebody can go on where a tick does nothing.
use Rattle.std.proofs.Common.{◌≡◌, ℕ, Bool, true, false, not, ◌&&◌, Option, Some, None, is_none, is_some, option_and_then, option_map, if◌then◌else◌, length, map, slice_get, refl, ap, sym, ◌∙◌, inl, inr}
use Rattle.std.specs.Option.{option_or}
use Rattle.std.proofs.lemmas.Bool.{true≢false}
use Rattle.ps_world.specs.declared.names.Name.{Name}
use Rattle.ps_machine.specs.declared.members.Unit.{Unit as Task}
use Rattle.ps_machine.specs.declared.journal.Event.{Event}
use Rattle.ps_machine.specs.declared.journal.Outcome.{Outcome}
use Rattle.ps_rules.specs.Choices.{observer_turn, performed, performer_turn, ticked, unit_event, wants_plan, work_of}
use Rattle.ps_rules.specs.History.{IsHistory}
use Rattle.ps_rules.specs.Known.{know}
use Rattle.ps_rules.specs.Members.{observers}
use Rattle.ps_rules.specs.Runs.{is_running}
use Rattle.ps_rules.specs.Sound.{IsSound}
use Rattle.ps_progress_laws.proofs.GoingOn.{somebody_goes_on}
use Rattle.ps_ledger.specs.Ends.{last_outcome, outcome_of}
use Rattle.ps_board.specs.declared.board.Shown.{Shown}
use Rattle.ps_board.specs.declared.ticks.Ticked.{Ticked}
use Rattle.ps_board.specs.declared.ticks.Ticked.TheVariants.{Halted, Nothing}
use Rattle.ps_board.specs.Board.{GoesOn, handing, is_free, observing, performing, tick_answer}
use Rattle.ps_board.specs.Board.GoesOn.{granted_out, performs_next, works_next, observes_next}
use Rattle.ps_board.specs.Grants.{grant_for, granted, performer_names}
use Rattle.ps_board.specs.Ticks.{closed_answer, done_answer, snapshot_of, ticked_answer}
use Rattle.ps_board.specs.declared.ticks.Snapshot.{Snapshot}

-- ---- the answer of a tick that does nothing

not-done : (how : Option Outcome) → done_answer how ≡ Nothing → ⊥
not-done None e = absurd (cc)
not-done (Some how) e = absurd (cc)

quiet-tick : (wants : Bool) (snapshot : Snapshot) (done : Option Event) → ticked_answer (if wants then Some snapshot else None) done ≡ Nothing → (done ≡ None) × (wants ≡ false)
quiet-tick true snapshot None e = absurd (cc)
quiet-tick false snapshot None e = (refl, refl)
quiet-tick wants snapshot (Some x) e = absurd (not-done (outcome_of x) e)

-- in an open run that isn't halted a tick answers by what it does
pub tick-answers : (b : Shown) → is_running b.entries ≡ true → b.halted ≡ false → tick_answer b ≡ ticked_answer (snapshot_of b.input b.entries) (ticked b.input b.entries)
tick-answers b live goes =
    let does : Ticked = ticked_answer (snapshot_of b.input b.entries) (ticked b.input b.entries) in
    ap (λ x. if not x then closed_answer (last_outcome b.entries) else (if b.halted then Halted else does)) live ∙ ap (λ h. if h then Halted else does) goes

-- ---- who goes on

module _ (b : Shown) (live : is_running b.entries ≡ true) (goes : b.halted ≡ false) where
  free : (k : ℕ) → granted b.grants k ≡ None → is_free b k ≡ true
  free k g = ap (λ x. x && (not b.halted && is_none (granted b.grants k))) live ∙ ap (λ x. not x && is_none (granted b.grants k)) goes ∙ ap is_none g

  -- what the performer with this number does where it is free
  performs : (k : ℕ) (name : Name) → slice_get (performer_names b.input) k ≡ Some name → granted b.grants k ≡ None → performing b k ≡ performed b.input name b.entries
  performs k name at g =
      ap (λ x. if x then option_and_then (λ n. performed b.input n b.entries) (slice_get (performer_names b.input) k) else None) (free k g)
      ∙ ap (option_and_then (λ n. performed b.input n b.entries)) at

  hands : (k : ℕ) (name : Name) → slice_get (performer_names b.input) k ≡ Some name → granted b.grants k ≡ None → handing b k ≡ grant_for b.input b.entries name
  hands k name at g =
      ap (λ x. if x then option_and_then (grant_for b.input b.entries) (slice_get (performer_names b.input) k) else None) (free k g)
      ∙ ap (option_and_then (grant_for b.input b.entries)) at

  by-work : (k : ℕ) (name : Name) → slice_get (performer_names b.input) k ≡ Some name → granted b.grants k ≡ None → (w : Option (ℕ × Task)) → work_of b.input name b.entries ≡ w
      → is_some (option_map (λ w. unit_event b.input b.entries w.0 name w.1) w) ≡ true → GoesOn b
  by-work k name at g None its e = absurd (true≢false (sym e))
  by-work k name at g (Some w) its e =
      works_next k (record { r = w.0; by = name; unit = w.1 }) (hands k name at g ∙ ap (option_map (λ w. record { r = w.0; by = name; unit = w.1 })) its)

  by-performed : (k : ℕ) (name : Name) → slice_get (performer_names b.input) k ≡ Some name → granted b.grants k ≡ None → (o : Option Event) → performed b.input name b.entries ≡ o
      → is_some (option_or o (option_map (λ w. unit_event b.input b.entries w.0 name w.1) (work_of b.input name b.entries))) ≡ true → GoesOn b
  by-performed k name at g None its e = by-work k name at g (work_of b.input name b.entries) refl e
  by-performed k name at g (Some x) its e = performs_next k x (performs k name at g ∙ its)

  by-grant : (k : ℕ) (name : Name) → slice_get (performer_names b.input) k ≡ Some name → is_some (performer_turn b.input name b.entries) ≡ true → (g : Option ℕ) → granted b.grants k ≡ g → GoesOn b
  by-grant k name at e None its = by-performed k name at its (performed b.input name b.entries) refl e
  by-grant k name at e (Some r) its = granted_out k r its

  pub observes : (k : ℕ) (name : Name) → slice_get (map (λ o. o.name) (observers b.input)) k ≡ Some name → observing b k ≡ observer_turn b.input name b.entries
  observes k name at =
      ap (λ x. if x && not b.halted then option_and_then (λ n. observer_turn b.input n b.entries) (slice_get (map (λ o. o.name) (observers b.input)) k) else None) live
      ∙ ap (λ x. if not x then option_and_then (λ n. observer_turn b.input n b.entries) (slice_get (map (λ o. o.name) (observers b.input)) k) else None) goes
      ∙ ap (option_and_then (λ n. observer_turn b.input n b.entries)) at

  by-observer : (k : ℕ) (name : Name) → slice_get (map (λ o. o.name) (observers b.input)) k ≡ Some name → (o : Option Event) → observer_turn b.input name b.entries ≡ o → is_some o ≡ true → GoesOn b
  by-observer k name at None its e = absurd (true≢false (sym e))
  by-observer k name at (Some x) its e = observes_next k x (observes k name at ∙ its)

pub goes-on : (b : Shown) → IsSound b.input → IsHistory b.input b.entries → is_running b.entries ≡ true → b.halted ≡ false
    → ticked_answer (snapshot_of b.input b.entries) (ticked b.input b.entries) ≡ Nothing → GoesOn b
goes-on b sound h live goes e =
    let w = quiet-tick (wants_plan b.input b.entries) (record { at = length b.entries; problem = know b.input b.entries }) (ticked b.input b.entries) e in
    elim (somebody_goes_on b.input b.entries sound h live w.0 w.1) [
      | inl p ↦ by-grant b live goes p.0 p.1 p.2 p.3 (granted b.grants p.0) refl
      | inr o ↦ by-observer b live goes o.0 o.1 o.2 (observer_turn b.input o.1 b.entries) refl o.3
    ]
