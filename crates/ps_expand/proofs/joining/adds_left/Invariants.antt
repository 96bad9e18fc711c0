use Rattle.std.proofs.Common.{◌≡◌, ◌++◌, drop, filter_map}
use Rattle.ps_expand.specs.Joining.{left_by}
use Rattle.ps_expand.proofs.joining.adds_left.Given as goal

abbrev pub invariant-loop-effect : goal.invariant-loop-effect
invariant-loop-effect l = l.all.items ++ filter_map (left_by l.ends) (drop l.effect-index l.starts) ≡ filter_map (left_by l.ends) l.starts
