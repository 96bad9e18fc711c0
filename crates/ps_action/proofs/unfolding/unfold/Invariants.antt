use Rattle.std.proofs.Common.{◌≡◌, take}
use Rattle.ps_action.specs.Effects.{flat}
use Rattle.ps_action.proofs.unfolding.unfold.Given as goal

abbrev pub invariant-loop-spread : goal.invariant-loop-spread
invariant-loop-spread g l = l.all.items ≡ flat (g.T.Types.types l.types) (g.K.Known.known l.known) (take l.spread-index l.effects)
