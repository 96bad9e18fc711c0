use Rattle.std.proofs.Common.{◌≡◌, ◌++◌, map, take}
use Rattle.ps_action.specs.Grounding.{put_effect}
use Rattle.ps_action.proofs.unfolding.push_effects.Given as goal

abbrev pub invariant-loop-effect : goal.invariant-loop-effect
invariant-loop-effect l = l.all.items ≡ l.fn.all.items ++ map (put_effect l.env) (take l.effect-index l.effects)
