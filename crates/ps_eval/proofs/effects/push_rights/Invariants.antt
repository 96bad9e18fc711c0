use Rattle.std.proofs.Common.{◌≡◌, ◌++◌, flat_map, take}
use Rattle.ps_action.specs.Touching.{read_by_effect}
use Rattle.ps_eval.proofs.effects.push_rights.Given as goal

abbrev pub invariant-loop-effect : goal.invariant-loop-effect
invariant-loop-effect l = l.all.items ≡ l.fn.all.items ++ flat_map read_by_effect (take l.effect-index l.effects)
