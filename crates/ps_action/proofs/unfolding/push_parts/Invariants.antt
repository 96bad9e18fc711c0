use Rattle.std.proofs.Common.{◌≡◌, ◌++◌, flat_map, take}
use Rattle.ps_action.specs.Effects.{flat_guarded}
use Rattle.ps_action.proofs.unfolding.push_parts.Given as goal

abbrev pub invariant-loop-part : goal.invariant-loop-part
invariant-loop-part g l = l.all.items ≡ l.fn.all.items ++ flat_map (flat_guarded (g.T.Types.types l.types) (g.K.Known.known l.known) l.env) (take l.part-index l.parts)
