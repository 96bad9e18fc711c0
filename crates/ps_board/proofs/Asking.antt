-- That the solver is asked only where there is a goal, and that whoever a tick hands a snapshot out to asks it.
use Rattle.std.proofs.Common.{◌≡◌, ◌&&◌, not, Bool, true, false, if◌then◌else◌, Option, Some, None, is_none, IsSome, List, length, take, refl, ap, arith, sym, ◌∙◌}
use Rattle.std.proofs.Math.Seq.{take-length}
use Rattle.std.proofs.lemmas.Bool.{and_parts}
use Rattle.ps_world.specs.declared.conditions.Cond.{Cond}
use Rattle.ps_machine.specs.declared.inputs.Input.{Input}
use Rattle.ps_machine.specs.declared.journal.Event.{Event}
use Rattle.ps_machine.specs.declared.journal.Entry.{Entry}
use Rattle.ps_machine.specs.declared.journal.Outcome.{Outcome}
use Rattle.ps_machine.specs.declared.journal.Outcome.TheVariants as outcome
use Rattle.ps_machine.specs.declared.journal.RunKind.{RunKind}
use Rattle.ps_machine.specs.declared.journal.RunKind.TheVariants as run
use Rattle.ps_rules.specs.Choices.{ticked, wants_plan}
use Rattle.ps_rules.specs.Known.{know}
use Rattle.ps_rules.specs.Runs.{is_running, kind}
use Rattle.ps_rules.specs.Settled.{is_reached, is_settled, unreached, verdict}
use Rattle.ps_stale_plan_laws.specs.Asked.{WasAsked}
use Rattle.ps_ledger.specs.Ends.{last_outcome, outcome_of}
use Rattle.ps_board.specs.declared.board.Shown.{Shown}
use Rattle.ps_board.specs.declared.ticks.Snapshot.{Snapshot}
use Rattle.ps_board.specs.declared.ticks.Ticked.{Ticked}
use Rattle.ps_board.specs.declared.ticks.Ticked.TheVariants as tick
use Rattle.ps_board.specs.Board.{tick_answer, ticking}
use Rattle.ps_board.specs.Ticks.{closed_answer, done_answer, snapshot_of, ticked_answer}

-- ---- there is a goal then

goal-there : (goal : Option Cond) (rest : Option Outcome) → is_none (if is_none goal then Some outcome.NoGoal else rest) ≡ true → IsSome goal
goal-there None rest e = absurd (cc)
goal-there (Some goal) rest e = refl

unreached-goal : (i : Input) (es : List Entry) (for : Option RunKind) → is_none (unreached i es for) ≡ true → IsSome (know i es).goal
unreached-goal i es (Some run.Action) e = absurd (cc)
unreached-goal i es (Some run.Goal) e = goal-there (know i es).goal _ e
unreached-goal i es (Some run.Plan) e = goal-there (know i es).goal _ e
unreached-goal i es None e = goal-there (know i es).goal _ e

verdict-goal : (i : Input) (es : List Entry) (reached : Bool) → is_none (if reached then Some outcome.Success else unreached i es (kind es)) ≡ true → IsSome (know i es).goal
verdict-goal i es true e = absurd (cc)
verdict-goal i es false e = unreached-goal i es (kind es) e

-- the solver is asked only where there is a goal
pub asked-goal : (i : Input) (es : List Entry) → wants_plan i es ≡ true → IsSome (know i es).goal
asked-goal i es wants =
    let settled = (and_parts (is_running es) (is_settled i es && is_none (verdict i es)) wants).1 in
    verdict-goal i es (is_reached i es (kind es)) (and_parts (is_settled i es) (is_none (verdict i es)) settled).1

-- ---- who is told to ask

not-done : (how : Option Outcome) (s : Snapshot) → done_answer how ≡ tick.WantsPlan s → ⊥
not-done None s e = absurd (cc)
not-done (Some how) s e = absurd (cc)

not-closed : (last : Option Outcome) (s : Snapshot) → closed_answer last ≡ tick.WantsPlan s → ⊥
not-closed None s e = absurd (cc)
not-closed (Some how) s e = absurd (cc)

same-snapshot : (s t : Snapshot) → tick.WantsPlan s ≡ tick.WantsPlan t → s ≡ t
same-snapshot s t e = cc

ticked-wants : (wants : Bool) (s t : Snapshot) (done : Option Event) → ticked_answer (if wants then Some s else None) done ≡ tick.WantsPlan t → (done ≡ None) × (wants ≡ true) × (s ≡ t)
ticked-wants true s t None e = (refl, refl, same-snapshot s t e)
ticked-wants false s t None e = absurd (cc)
ticked-wants wants s t (Some x) e = absurd (not-done (outcome_of x) t e)

by-tests : (live halted : Bool) (last : Option Outcome) (a : Ticked) (t : Snapshot) → (if not live then closed_answer last else (if halted then tick.Halted else a)) ≡ tick.WantsPlan t
    → ((live && not halted) ≡ true) × (a ≡ tick.WantsPlan t)
by-tests true true last a t e = absurd (cc)
by-tests true false last a t e = (refl, e)
by-tests false halted last a t e = absurd (not-closed last t e)

-- a tick that hands a snapshot out does nothing, and who has it asked the solver when it was made
pub wants-asked : (b : Shown) (t : Snapshot) → tick_answer b ≡ tick.WantsPlan t → (ticking b ≡ None) × WasAsked b.input b.entries t.at × (t.problem ≡ know b.input (take t.at b.entries))
wants-asked b t e =
    let s : Snapshot = record { at = length b.entries; problem = know b.input b.entries } in
    let runs = by-tests (is_running b.entries) b.halted (last_outcome b.entries) (ticked_answer (snapshot_of b.input b.entries) (ticked b.input b.entries)) t e in
    let asks = ticked-wants (wants_plan b.input b.entries) s t (ticked b.input b.entries) runs.1 in
    let all : take t.at b.entries ≡ b.entries = ap (λ x. take x.at b.entries) (sym asks.2) ∙ take-length b.entries in (
      ap (λ x. if x then ticked b.input b.entries else None) runs.0 ∙ asks.0,
      record {
        few = let at = ap (λ x. x.at) asks.2 in omega (arith, at);
        asks = ap (wants_plan b.input) all ∙ asks.1;
      },
      ap (λ x. x.problem) (sym asks.2) ∙ ap (know b.input) (sym all),
    )
