use Rattle.std.proofs.Common.{◌≡◌, map, take}
use Rattle.ps_action.specs.Grounding.{put_effect}
use Rattle.ps_domain.proofs.putting.put_flat.Given as goal

abbrev pub invariant-loop-effect : goal.invariant-loop-effect
invariant-loop-effect l = l.put ≡ map (put_effect l.env) (take l.effect-index l.effects)
