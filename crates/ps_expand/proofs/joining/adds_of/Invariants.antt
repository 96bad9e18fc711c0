use Rattle.std.proofs.Common.{◌≡◌, ◌++◌, drop, filter_map}
use Rattle.ps_action.specs.Effects.{added_by}
use Rattle.ps_expand.proofs.joining.adds_of.Given as goal

abbrev pub invariant-loop-effect : goal.invariant-loop-effect
invariant-loop-effect l = l.all.items ++ filter_map (added_by) (drop l.effect-index l.effects) ≡ filter_map (added_by) l.effects
