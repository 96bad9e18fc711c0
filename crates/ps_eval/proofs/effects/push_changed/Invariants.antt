use Rattle.std.proofs.Common.{◌≡◌, ◌++◌, map, take}
use Rattle.ps_action.specs.Touching.{changed_by_effect}
use Rattle.ps_eval.proofs.effects.push_changed.Given as goal

abbrev pub invariant-loop-effect : goal.invariant-loop-effect
invariant-loop-effect l = l.all.items ≡ l.fn.all.items ++ map changed_by_effect (take l.effect-index l.effects)
