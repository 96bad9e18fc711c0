-- A worker that goes on alone.
use Rattle.std.proofs.Common.{◌≡◌, true, [], sym, append-nil}
use Rattle.ps_rules.specs.Runs.{has_run}
use Rattle.ps_board.specs.declared.board.Shown.{Shown}
use Rattle.ps_board.specs.declared.ticks.Snapshot.{Snapshot}
use Rattle.ps_pool.specs.Rounds.{IsWanted}
use Rattle.ps_pool.specs.Workers.{GoesOnAlone, WasWanted}
use Rattle.ps_pool.proofs.Outs.{wanted-still}
use Rattle.ps_pool.proofs.Working.{ran-still}

-- a run was opened still
pub alone-ran : (old new : Shown) → has_run old.entries ≡ true → GoesOnAlone old new → has_run new.entries ≡ true
alone-ran old new ran on = ran-still old.entries new.entries on.grows.0 on.grows.1 ran

-- what was just handed out may be answered
pub alone-wanted : (b : Shown) (s : Snapshot) → IsWanted b.input b.entries s → WasWanted b.input b.entries s
alone-wanted b s wanted = wanted-still b.input b.entries b.entries [] s wanted (sym (append-nil b.entries))
