-- An answer that is handed in at once is taken.
use Rattle.std.proofs.Common.{◌≡◌, ℕ, List, length, arith, ap}
use Rattle.ps_machine.specs.declared.inputs.Input.{Input}
use Rattle.ps_machine.specs.declared.journal.Entry.{Entry}
use Rattle.ps_stale_plan_laws.specs.Asked.{IsFirstToCount}
use Rattle.ps_stale_plan_laws.proofs.Counted.{past_uncounted}
use Rattle.ps_board.specs.declared.ticks.Snapshot.{Snapshot}
use Rattle.ps_pool.specs.Rounds.{IsWanted}
use Rattle.ps_pool.proofs.TickerTurns.{wanted-is}

pub never-stale : (i : Input) (es : List Entry) (s : Snapshot) (k : ℕ) → IsWanted i es s → IsFirstToCount i es s.at k → ⊥
never-stale i es s k wanted first =
    let at : length es ≡ s.at = ap (λ (x : Snapshot). x.at) (wanted-is i es s wanted) in
    past_uncounted i es k (let after = first.after in omega (arith, at, after)) first.counts
