-- What comes back once all workers have stopped.
use Rattle.std.proofs.Common.{◌≡◌, ℕ, true, false, Result, Ok, Err, List, ap, sym, ◌∙◌, subst}
use Rattle.std.specs.Prelude.{IfOk, IfErr}
use Rattle.ps_machine.specs.declared.inputs.Input.{Input}
use Rattle.ps_machine.specs.declared.journal.Entry.{Entry}
use Rattle.ps_rules.specs.History.{IsHistory}
use Rattle.ps_rules.specs.Runs.{is_running}
use Rattle.ps_board.specs.declared.board.Shown.{Shown}
use Rattle.ps_turn.specs.Books.{Book}
use Rattle.ps_turn.specs.Hands.{GoesOnByHands}
use Rattle.ps_pool.specs.Workers.{EndedBy, StoppedBy, WorkedBy}
use Rattle.ps_pool.specs.declared.ordered.RunStop.{RunStop}
use Rattle.ps_pool.proofs.Working.{ended, unworked, worked}

-- the hands of a book are those of as many workers
pub grown-book : (book : Book) (workers : ℕ) (old new : List Entry) → book.seats ≡ workers → book.opened ≡ old → GoesOnByHands book.seats book.opened new → GoesOnByHands workers old new
grown-book book workers old new seats opened grown =
    subst (λ n. GoesOnByHands n old new) seats (subst (λ es. GoesOnByHands book.seats es new) opened grown)

-- a board that comes back as it was handed in
pub back-stopped : (workers : ℕ) (b back : Shown) → back ≡ b → IsHistory b.input b.entries → is_running b.entries ≡ true → StoppedBy workers b.input b.entries back.entries
back-stopped workers b back is history live =
    subst (λ (x : Shown). StoppedBy workers b.input b.entries x.entries) (sym is) record { worked = unworked workers b.input b.entries history; running = live }

module _ (workers : ℕ) (i : Input) (old : List Entry) (b : Shown) (r : Result Shown RunStop) (history : IsHistory b.input b.entries) (same : b.input ≡ i)
    (grown : GoesOnByHands workers old b.entries) where
  pub settled-ended : is_running old ≡ true → IfOk r (λ s. is_running s.entries ≡ false) → IfOk r (λ s. s ≡ b) → IfOk r (λ s. EndedBy workers i old s.entries)
  settled-ended live closed is = by_result r closed is
    where
      by_result : (r : Result Shown RunStop) → IfOk r (λ s. is_running s.entries ≡ false) → IfOk r (λ s. s ≡ b) → IfOk r (λ s. EndedBy workers i old s.entries)
      by_result (Ok s) closed is =
          subst (λ (x : Shown). EndedBy workers i old x.entries) (sym is)
          (ended workers i old b.entries (subst (λ j. IsHistory j b.entries) same history) grown live (ap (λ (x : Shown). is_running x.entries) (sym is) ∙ closed))
      by_result (Err e) closed is = tt

  pub settled-stopped : IfErr r (λ stop. stop.board ≡ b) → IfErr r (λ stop. is_running stop.board.entries ≡ true) → IfErr r (λ stop. StoppedBy workers i old stop.board.entries)
  settled-stopped is running = by_result r is running
    where
      by_result : (r : Result Shown RunStop) → IfErr r (λ stop. stop.board ≡ b) → IfErr r (λ stop. is_running stop.board.entries ≡ true)
          → IfErr r (λ stop. StoppedBy workers i old stop.board.entries)
      by_result (Ok s) is running = tt
      by_result (Err e) is running = record {
        worked = subst (λ (x : Shown). WorkedBy workers i old x.entries) (sym is) (worked workers i old b.entries (subst (λ j. IsHistory j b.entries) same history) grown);
        running = running;
      }
