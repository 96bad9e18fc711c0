use Rattle.std.proofs.Common.{◌≡◌, ◌++◌, drop, filter_map}
use Rattle.ps_problem.specs.Puts.{deleted_by}
use Rattle.ps_expand.proofs.joining.deletes_of.Given as goal

abbrev pub invariant-loop-effect : goal.invariant-loop-effect
invariant-loop-effect l = l.all.items ++ filter_map (deleted_by) (drop l.effect-index l.effects) ≡ filter_map (deleted_by) l.effects
