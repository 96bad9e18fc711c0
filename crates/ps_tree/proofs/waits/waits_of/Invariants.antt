use Rattle.std.proofs.Common.{◌≡◌, map}
use Rattle.std.specs.List.{range_with_len}
use Rattle.ps_action.specs.Trees.{waits_for}
use Rattle.ps_tree.proofs.waits.waits_of.Given as goal

abbrev pub invariant-loop-act : goal.invariant-loop-act
invariant-loop-act l = l.all.items ≡ map (waits_for l.arcs.pairs) (range_with_len 0 l.act)
