use Rattle.std.proofs.Common.{◌≡◌, map, take}
use Rattle.ps_action.specs.Grounding.{put_guarded}
use Rattle.ps_domain.proofs.putting.put_parts.Given as goal

abbrev pub invariant-loop-part : goal.invariant-loop-part
invariant-loop-part l = l.put ≡ map (put_guarded l.env) (take l.part-index l.parts)
