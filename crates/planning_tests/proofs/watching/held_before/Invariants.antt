use Rattle.std.proofs.Common.{◌≡◌, ◌<◌, ℕ, ◌&&◌, false, not, slice_index_or}
use Rattle.ps_monitor.specs.Hits.{is_hit}
use Rattle.ps_monitor.specs.Watched.{watched}
use Rattle.planning_tests.proofs.watching.held_before.Given as goal

abbrev pub invariant-loop-act : goal.invariant-loop-act
invariant-loop-act l =
    (a : ℕ) → a < l.act → (slice_index_or l.broken.marks a false && not (is_hit l.changed (watched l.monitor a))) ≡ false
