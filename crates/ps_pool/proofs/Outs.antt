-- What one call of a board adds has the hand.
use Rattle.std.proofs.Common.{◌≡◌, ℕ, ◌+◌, ◌==◌, true, false, Option, Some, None, Result, Ok, Err, OnOk, OnErr, List, ◌++◌, length, take, refl, arith, ap, sym, ◌∙◌, subst, inl, inr, ◌⊎◌}
use Rattle.std.specs.Prelude.{IfOk}
use Rattle.std.proofs.Math.Seq.{take-append_seam}
use Rattle.std.proofs.lemmas.List.{length-append}
use Rattle.std.proofs.lemmas.Bool.{true≢false, eq-eqb, eqb-true}
use Rattle.ps_world.proofs.Optionals.{none_not_some, some_same}
use Rattle.ps_machine.specs.declared.inputs.Input.{Input}
use Rattle.ps_machine.specs.declared.journal.Event.{Event}
use Rattle.ps_machine.specs.declared.journal.Outcome.{Outcome}
use Rattle.ps_machine.specs.declared.members.Unit.{Unit as Task}
use Rattle.ps_machine.specs.declared.journal.Entry.{Entry}
use Rattle.ps_rules.specs.Choices.{wants_plan}
use Rattle.ps_rules.specs.Known.{know}
use Rattle.ps_rules.specs.Runs.{is_running}
use Rattle.ps_progress_laws.specs.Working.{unit_due}
use Rattle.ps_progress_laws.proofs.Picking.{by_test}
use Rattle.ps_legal.specs.Same.{same_unit}
use Rattle.ps_legal.proofs.Units.{same_unit-is, same_unit-itself}
use Rattle.ps_board.specs.Board.{Appended, grants_without, IsOut, number_of, recording, tick_answer, ticking, with_done}
use Rattle.ps_board.specs.declared.ticks.Snapshot.{Snapshot}
use Rattle.ps_board.specs.declared.ticks.Ticked.{Ticked}
use Rattle.ps_board.specs.declared.ticks.Ticked.TheVariants as tick
use Rattle.ps_board.specs.Grants.{granted}
use Rattle.ps_board.specs.declared.board.Shown.{Shown}
use Rattle.ps_board.specs.declared.works.Grant.{Grant}
use Rattle.ps_turn.specs.Hands.{GoesOnBy}
use Rattle.ps_pool.specs.Rounds.{IsWanted}
use Rattle.ps_pool.specs.Workers.{WasWanted}
use Rattle.ps_pool.proofs.TickerTurns.{asked-calm, asked-wanted, tick-shut, wanted-asks, wanted-is}
use Rattle.ps_pool.proofs.Working.{did-by, nothing-by}

-- ---- turns

-- a call that went well leaves this board, and one that failed that one
pub call-by : {A E : Type 0} (r : Result A E) (b new did left : Shown) (hand : ℕ) (what : Option Event) → did.entries ≡ with_done b hand what → left.entries ≡ b.entries
    → OnOk r (new ≡ did) → OnErr r (new ≡ left) → GoesOnBy hand b.entries new.entries
call-by (Ok a) b new did left hand what more same goes stops = did-by b.input hand b.entries new.entries what (ap (λ (s : Shown). s.entries) goes ∙ more)
call-by (Err e) b new did left hand what more same goes stops = nothing-by hand b.entries new.entries (ap (λ (s : Shown). s.entries) stops ∙ same)

-- all of a board but what is spare is as after what a tick does
abbrev pub HasTicked : ℕ → Shown → Shown → Type 0
HasTicked hand b new = new ≡ record b { entries = with_done b hand (ticking b); spare = new.spare }

pub tick-wanted : {E : Type 0} (r : Result Ticked E) (b new : Shown) (hand : ℕ) → IfOk r (λ t. t ≡ tick_answer b) → OnOk r (HasTicked hand b new)
    → IfOk r (λ t. (s : Snapshot) → t ≡ tick.WantsPlan s → IsWanted b.input new.entries s)
tick-wanted (Ok t) b new hand is did = λ s asks. asked-wanted b (asked-calm b t s is asks) hand t s new.entries is asks (ap (λ (n : Shown). n.entries) did)
tick-wanted (Err e) b new hand is did = tt

pub tick-ended : {E : Type 0} (r : Result Ticked E) (b new : Shown) (hand : ℕ) → IfOk r (λ t. t ≡ tick_answer b) → OnOk r (HasTicked hand b new)
    → IfOk r (λ t. (how : Outcome) → t ≡ tick.Over how → is_running new.entries ≡ false)
tick-ended (Ok t) b new hand is did = λ how over. tick-shut b hand t how new.entries is over (ap (λ (n : Shown). n.entries) did)
tick-ended (Err e) b new hand is did = tt

-- ---- answers of the solver

-- what was handed out stays so while entries come
pub wanted-still : (i : Input) (seen es more : List Entry) (s : Snapshot) → IsWanted i seen s → es ≡ seen ++ more → WasWanted i es s
wanted-still i seen es more s wanted is =
    let now = wanted-is i seen s wanted in
    let at : s.at ≡ length seen = sym (ap (λ (x : Snapshot). x.at) now) in
    let front : take s.at es ≡ seen = ap (λ n. take n es) at ∙ ap (take (length seen)) is ∙ take-append_seam seen more in
    let many : length es ≡ length seen + length more = ap (λ (l : List Entry). length l) is ∙ length-append seen more in
    record {
      asked = record { few = omega (arith, at, many); asks = ap (wants_plan i) front ∙ wanted-asks i seen s wanted };
      known = sym (ap (λ (x : Snapshot). x.problem) now) ∙ ap (know i) (sym front);
    }

-- ---- grants

-- a grant is out or it isn't
out-or-not : (b : Shown) (g : Grant) → IsOut b g ⊎ (IsOut b g → ⊥)
out-or-not b g = by_both (granted b.grants (number_of b g)) (unit_due b.input g.r g.by b.entries) refl refl
  where
    by_both : (r : Option ℕ) (u : Option Task) → granted b.grants (number_of b g) ≡ r → unit_due b.input g.r g.by b.entries ≡ u → IsOut b g ⊎ (IsOut b g → ⊥)
    by_both None u er eu = inr (λ out. none_not_some g.r (sym er ∙ out.request))
    by_both (Some r) None er eu = inr (λ out. none_not_some g.unit (sym eu ∙ out.unit))
    by_both (Some r) (Some u) er eu =
        by_test (r == g.r)
        (λ same.
        by_test (same_unit u g.unit)
        (λ one. inl (record { request = er ∙ ap Some (eqb-true r g.r same); unit = eu ∙ ap Some (same_unit-is u g.unit one) }))
        (λ other. inr (λ out. true≢false (sym (subst (λ v. same_unit u v ≡ true) (some_same u g.unit (sym eu ∙ out.unit)) (same_unit-itself u)) ∙ other))))
        (λ apart. inr (λ out. true≢false (sym (eq-eqb r g.r (some_same r g.r (sym er ∙ out.request))) ∙ apart)))

-- handing it in, where it is out, or dropping it
abbrev HandsIn : ℕ → Grant → Shown → Shown → Type 0
HandsIn hand g b new = IsOut b g → Appended hand (recording b g) (record b { grants = grants_without b g }) new

handed-by : (b new : Shown) (hand : ℕ) (g : Grant) → HandsIn hand g b new → ((IsOut b g → ⊥) → new ≡ b) → (GoesOnBy hand b.entries new.entries) × (new.input ≡ b.input)
handed-by b new hand g did left =
    elim (out-or-not b g) [
      | inl out ↦ (did-by b.input hand b.entries new.entries (recording b g) (ap (λ (s : Shown). s.entries) (did out)), ap (λ (s : Shown). s.input) (did out))
      | inr away ↦ (nothing-by hand b.entries new.entries (ap (λ (s : Shown). s.entries) (left away)), ap (λ (s : Shown). s.input) (left away))
    ]

pub unit-by : {A E : Type 0} (r : Result A E) (b new : Shown) (hand : ℕ) (g : Grant) → OnOk r (HandsIn hand g b new) → ((IsOut b g → ⊥) → OnOk r (new ≡ b)) → OnErr r (new ≡ b)
    → (GoesOnBy hand b.entries new.entries) × (new.input ≡ b.input)
unit-by (Ok a) b new hand g did left same = handed-by b new hand g did left
unit-by (Err e) b new hand g did left same = (nothing-by hand b.entries new.entries (ap (λ (s : Shown). s.entries) same), ap (λ (s : Shown). s.input) same)
