use Rattle.std.proofs.Common.{◌≡◌, ℕ, ◌≤◌, length}
use Rattle.ps_monitor.specs.Indexed.{watch_at}
use Rattle.ps_monitor.proofs.watches.make_place.Given as goal

abbrev pub invariant-loop-next : goal.invariant-loop-next
invariant-loop-next l = record {
  long : l.next ≤ length l.places.items;
  same : (other : ℕ) → watch_at l.places.items other ≡ watch_at l.initial.places.items other;
}
