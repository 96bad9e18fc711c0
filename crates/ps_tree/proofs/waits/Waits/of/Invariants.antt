use Rattle.std.proofs.Common.{◌≡◌, filter}
use Rattle.std.specs.List.{range_with_len}
use Rattle.ps_action.specs.ArcTables.{has_pair}
use Rattle.ps_tree.proofs.waits.Waits.of.Given as goal

abbrev pub invariant-loop-other : goal.invariant-loop-other
invariant-loop-other l = l.acts.items ≡ filter (λ i. has_pair i l.act l.arcs.pairs) (range_with_len 0 l.other)
