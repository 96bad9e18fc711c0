-- What the turn of the ticker comes to where no run was halted.
use Rattle.std.proofs.Common.{◌≡◌, ℕ, suc, ◌&&◌, not, Bool, true, false, Option, Some, None, if◌then◌else◌, List, length, refl, ap, sym, ◌∙◌}
use Rattle.std.specs.Option.{option_map_or, option_or}
use Rattle.std.proofs.lemmas.Bool.{true≢false}
use Rattle.ps_world.proofs.Optionals.{none_not_some, some_same}
use Rattle.ps_machine.specs.declared.inputs.Input.{Input}
use Rattle.ps_machine.specs.declared.journal.Outcome.{Outcome}
use Rattle.ps_machine.specs.declared.journal.Event.{Event}
use Rattle.ps_machine.specs.declared.journal.Event.TheVariants as event
use Rattle.ps_machine.specs.declared.journal.Entry.{Entry}
use Rattle.ps_rules.specs.Runs.{has_run, is_running}
use Rattle.ps_rules.specs.Known.{know}
use Rattle.ps_rules.specs.Choices.{after_turn, planned, Says, ticked, ticker_turn, wants_plan, with_block}
use Rattle.ps_progress_laws.proofs.Picking.{by_test}
use Rattle.ps_ledger.specs.Ends.{last_outcome, outcome_of}
use Rattle.ps_board.specs.Board.{tick_answer, ticking, with_done}
use Rattle.ps_board.specs.Ticks.{closed_answer, done_answer, snapshot_of, ticked_answer}
use Rattle.ps_board.specs.declared.board.Shown.{Shown}
use Rattle.ps_board.specs.declared.ticks.Snapshot.{Snapshot}
use Rattle.ps_board.specs.declared.ticks.Ticked.{Ticked}
use Rattle.ps_board.specs.declared.ticks.Ticked.TheVariants as tick
use Rattle.ps_pool.specs.Rounds.{after_answer, after_ticker, IsWanted, LeadsTo}
use Rattle.ps_pool.proofs.Ran.{over-closes, ran-turn}
use Rattle.ps_pool.proofs.Turns.{first-turn, ticker-turn}

-- ---- its answers

abbrev is_halted : Ticked → Bool
is_halted tick.Halted = true
is_halted t = false

abbrev pub is_asking : Ticked → Bool
is_asking (tick.WantsPlan s) = true
is_asking t = false

-- what it answers on a board that isn't halted, where a run is open or isn't
abbrev answer : Bool → Option Outcome → Option Snapshot → Option Event → Ticked
answer live last asked o = if not live then closed_answer last else ticked_answer asked o

closed-free : (last : Option Outcome) → (is_halted (closed_answer last) ≡ false) × (is_asking (closed_answer last) ≡ false)
closed-free None = (refl, refl)
closed-free (Some how) = (refl, refl)

done-free : (how : Option Outcome) → (is_halted (done_answer how) ≡ false) × (is_asking (done_answer how) ≡ false)
done-free None = (refl, refl)
done-free (Some how) = (refl, refl)

answer-free : (live : Bool) (last : Option Outcome) (asked : Option Snapshot) (o : Option Event) → is_halted (answer live last asked o) ≡ false
answer-free false last asked o = (closed-free last).0
answer-free true last asked (Some e) = (done-free (outcome_of e)).0
answer-free true last None None = refl
answer-free true last (Some s) None = refl

-- it asks the solver only where it does nothing in an open run
asked-by : (live : Bool) (last : Option Outcome) (asked : Option Snapshot) (o : Option Event) (s : Snapshot) → answer live last asked o ≡ tick.WantsPlan s
    → (live ≡ true) × ((o ≡ None) × (asked ≡ Some s))
asked-by false last asked o s is = absurd (true≢false (sym (ap is_asking is) ∙ (closed-free last).1))
asked-by true last asked (Some e) s is = absurd (true≢false (sym (ap is_asking is) ∙ (done-free (outcome_of e)).1))
asked-by true last None None s is = absurd (cc)
asked-by true last (Some x) None s is = let same : x ≡ s = cc in (refl, (refl, ap Some same))

ticked-over : (asked : Option Snapshot) (o : Option Event) (how : Outcome) → ticked_answer asked o ≡ tick.Over how → (h : Outcome) × (o ≡ Some (event.Over h))
ticked-over asked (Some (event.Over h)) how is = (h, refl)
ticked-over asked (Some e) how is = absurd (cc)
ticked-over None None how is = absurd (cc)
ticked-over (Some s) None how is = absurd (cc)

-- where it doesn't ask the solver its turn is what it does
by-choice : (o : Option Event) (wants : Bool) (s : Snapshot) (after : Option Event) → is_asking (ticked_answer (if wants then Some s else None) o) ≡ false
    → o ≡ option_or o (if wants then after else None)
by-choice (Some e) wants s after calm = refl
by-choice None true s after calm = absurd (true≢false calm)
by-choice None false s after calm = refl

-- ---- a snapshot is what is known now

module _ (i : Input) (es : List Entry) (s : Snapshot) (wanted : IsWanted i es s) where
  pub wanted-asks : wants_plan i es ≡ true
  wanted-asks =
      by_test (wants_plan i es) (λ t. t)
      (λ t. none_not_some s (sym (ap (λ b. if b then Some (record { at = length es; problem = know i es }) else None) t) ∙ wanted))

  pub wanted-is : record { at = length es; problem = know i es } ≡ s
  wanted-is =
      some_same (record { at = length es; problem = know i es }) s
      (sym (ap (λ b. if b then Some (record { at = length es; problem = know i es }) else None) wanted-asks) ∙ wanted)

-- ---- its turn

module _ (b : Shown) (calm : b.halted ≡ false) where
  answer-so : tick_answer b ≡ answer (is_running b.entries) (last_outcome b.entries) (snapshot_of b.input b.entries) (ticked b.input b.entries)
  answer-so =
      ap (λ h. if not (is_running b.entries) then closed_answer (last_outcome b.entries)
      else (if h then tick.Halted else ticked_answer (snapshot_of b.input b.entries) (ticked b.input b.entries))) calm

  ticking-so : ticking b ≡ (if is_running b.entries then ticked b.input b.entries else None)
  ticking-so =
      ap (λ h. if is_running b.entries && not h then ticked b.input b.entries else None) calm
      ∙ ap (λ t. if t then ticked b.input b.entries else None) (and-so (is_running b.entries))
    where
      and-so : (x : Bool) → (x && true) ≡ x
      and-so true = refl
      and-so false = refl

  -- it isn't halted
  pub never-halted : (t : Ticked) → t ≡ tick_answer b → t ≡ tick.Halted → ⊥
  never-halted t is halted =
      true≢false (sym (ap is_halted halted) ∙ ap is_halted (is ∙ answer-so)
      ∙ answer-free (is_running b.entries) (last_outcome b.entries) (snapshot_of b.input b.entries) (ticked b.input b.entries))

  -- what is appended where it doesn't ask the solver
  pub turn-so : (says : Says) (t : Ticked) (new : List Entry) → t ≡ tick_answer b → is_asking t ≡ false → new ≡ with_done b 1 (ticking b) → new ≡ after_ticker says b.input b.entries
  turn-so says t new is calm appended =
      appended ∙ ap (λ o. option_map_or (with_block b.input 1 b.entries) o b.entries) (ticking-so ∙ by_live (is_running b.entries) (sym (ap is_asking (is ∙ answer-so)) ∙ calm))
    where
      by_live : (live : Bool) → is_asking (answer live (last_outcome b.entries) (snapshot_of b.input b.entries) (ticked b.input b.entries)) ≡ false
          → (if live then ticked b.input b.entries else None) ≡ (if live then ticker_turn says b.input b.entries else None)
      by_live false still = refl
      by_live true still =
          by-choice (ticked b.input b.entries) (wants_plan b.input b.entries) (record { at = length b.entries; problem = know b.input b.entries })
          (planned (says b.input.domain (know b.input b.entries) b.input.budget)) still

  -- where it asks, a run is open, nothing is appended, and this is the snapshot
  asked-so : (t : Ticked) (s : Snapshot) → t ≡ tick_answer b → t ≡ tick.WantsPlan s → (is_running b.entries ≡ true) × ((ticked b.input b.entries ≡ None) × IsWanted b.input b.entries s)
  asked-so t s is asks =
      asked-by (is_running b.entries) (last_outcome b.entries) (snapshot_of b.input b.entries) (ticked b.input b.entries) s (sym (is ∙ answer-so) ∙ asks)

  pub asked-same : (hand : ℕ) (t : Ticked) (s : Snapshot) (new : List Entry) → t ≡ tick_answer b → t ≡ tick.WantsPlan s → new ≡ with_done b hand (ticking b) → new ≡ b.entries
  asked-same hand t s new is asks appended =
      let a = asked-so t s is asks in
      appended ∙ ap (λ o. option_map_or (with_block b.input hand b.entries) o b.entries)
      (ticking-so ∙ ap (λ x. if x then ticked b.input b.entries else None) a.0 ∙ (a.1).0)

  pub asked-wanted : (hand : ℕ) (t : Ticked) (s : Snapshot) (new : List Entry) → t ≡ tick_answer b → t ≡ tick.WantsPlan s → new ≡ with_done b hand (ticking b)
      → IsWanted b.input new s
  asked-wanted hand t s new is asks appended =
      ap (snapshot_of b.input) (asked-same hand t s new is asks appended) ∙ ((asked-so t s is asks).1).1

  -- what follows the solver's answer is its turn
  pub asked-turn : (says : Says) (mid : Shown) (t : Ticked) (s : Snapshot) (new : List Entry) → t ≡ tick_answer b → t ≡ tick.WantsPlan s → mid.input ≡ b.input
      → mid.entries ≡ with_done b 1 (ticking b) → new ≡ after_answer says mid.input mid.entries → new ≡ after_ticker says b.input b.entries
  asked-turn says mid t s new is asks same appended answered =
      let a = asked-so t s is asks in
      let after : Option Event = planned (says b.input.domain (know b.input b.entries) b.input.budget) in
      let turn : (if is_running b.entries then ticker_turn says b.input b.entries else None) ≡ after =
      ap (λ x. if x then ticker_turn says b.input b.entries else None) a.0
      ∙ ap (λ o. option_or o (if wants_plan b.input b.entries then after else None)) (a.1).0
      ∙ ap (λ x. if x then after else None) (wanted-asks b.input b.entries s (a.1).1) in
      answered
      ∙ ap (λ i. after_answer says i mid.entries) same
      ∙ ap (after_answer says b.input) (asked-same 1 t s mid.entries is asks appended)
      ∙ ap (λ o. option_map_or (with_block b.input 1 b.entries) o b.entries) (sym turn)

  -- where it answers how the run ended no run is open after it
  pub tick-over : (hand : ℕ) (t : Ticked) (how : Outcome) (new : List Entry) → t ≡ tick_answer b → t ≡ tick.Over how → new ≡ with_done b hand (ticking b) → is_running new ≡ false
  tick-over hand t how new is over appended =
      ap is_running (appended ∙ ap (λ o. option_map_or (with_block b.input hand b.entries) o b.entries) ticking-so)
      ∙ by_live (is_running b.entries) refl (sym (is ∙ answer-so) ∙ over)
    where
      by_live : (live : Bool) → is_running b.entries ≡ live → answer live (last_outcome b.entries) (snapshot_of b.input b.entries) (ticked b.input b.entries) ≡ tick.Over how
          → is_running (option_map_or (with_block b.input hand b.entries) (if live then ticked b.input b.entries else None) b.entries) ≡ false
      by_live false closed is = closed
      by_live true live is =
          let h = ticked-over (snapshot_of b.input b.entries) (ticked b.input b.entries) how is in
          ap (λ o. is_running (option_map_or (with_block b.input hand b.entries) o b.entries)) h.1 ∙ over-closes b.input hand b.entries h.0

-- it asks the solver only where the board isn't halted
pub asked-calm : (b : Shown) (t : Ticked) (s : Snapshot) → t ≡ tick_answer b → t ≡ tick.WantsPlan s → b.halted ≡ false
asked-calm b t s is asks =
    by_test b.halted (λ h. absurd (true≢false (sym (ap is_asking asks) ∙ ap is_asking is ∙ ap is_asking (so h) ∙ by_live (is_running b.entries)))) (λ h. h)
  where
    so : b.halted ≡ true → tick_answer b ≡ (if not (is_running b.entries) then closed_answer (last_outcome b.entries) else tick.Halted)
    so h =
        ap (λ x. if not (is_running b.entries) then closed_answer (last_outcome b.entries)
        else (if x then tick.Halted else ticked_answer (snapshot_of b.input b.entries) (ticked b.input b.entries))) h

    by_live : (live : Bool) → is_asking (if not live then closed_answer (last_outcome b.entries) else tick.Halted) ≡ false
    by_live false = (closed-free (last_outcome b.entries)).1
    by_live true = refl

-- it tells how the run ended only where none is open or the board isn't halted
over-calm : (b : Shown) (t : Ticked) (how : Outcome) → t ≡ tick_answer b → t ≡ tick.Over how → is_running b.entries ≡ true → b.halted ≡ false
over-calm b t how is over live =
    by_test b.halted (λ h. absurd (true≢false (ap is_halted (sym (both h)) ∙ ap is_halted (sym is ∙ over)))) (λ h. h)
  where
    both : b.halted ≡ true → tick_answer b ≡ tick.Halted
    both h =
        ap (λ x. if not x then closed_answer (last_outcome b.entries)
        else (if b.halted then tick.Halted else ticked_answer (snapshot_of b.input b.entries) (ticked b.input b.entries))) live
        ∙ ap (λ x. if x then tick.Halted else ticked_answer (snapshot_of b.input b.entries) (ticked b.input b.entries)) h

-- after which none is open, on any board
pub tick-shut : (b : Shown) (hand : ℕ) (t : Ticked) (how : Outcome) (new : List Entry) → t ≡ tick_answer b → t ≡ tick.Over how → new ≡ with_done b hand (ticking b) → is_running new ≡ false
tick-shut b hand t how new is over appended =
    by_test (is_running b.entries)
    (λ live. tick-over b (over-calm b t how is over live) hand t how new is over appended)
    (λ closed.
    ap is_running (appended ∙ ap (λ x. option_map_or (with_block b.input hand b.entries) (if x && not b.halted then ticked b.input b.entries else None) b.entries) closed) ∙ closed)

-- ---- its turn is the last of a round

pub ticker-leads : (says : Says) (i : Input) (old new : List Entry) → new ≡ after_ticker says i old → LeadsTo says i (length i.members) old 0 new
ticker-leads says i old new is es t = record {
  turns = suc t.turns;
  all = is ∙ sym (ticker-turn says i t.turns old t.next) ∙ ap (after_turn says i t.turns) t.all;
  next = first-turn i t.turns t.next;
}

pub ran-ticker : (says : Says) (i : Input) (old new : List Entry) → new ≡ after_ticker says i old → has_run old ≡ true → has_run new ≡ true
ran-ticker says i old new is ran = ap has_run is ∙ ran-turn i 1 old (if is_running old then ticker_turn says i old else None) ran
