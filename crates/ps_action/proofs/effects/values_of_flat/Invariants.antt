use Rattle.std.proofs.Common.{◌≡◌, ◌++◌, drop}
use Rattle.ps_action.specs.Effects.{values_of_flat}
use Rattle.ps_action.proofs.effects.values_of_flat.Given as goal

abbrev pub invariant-loop-effect : goal.invariant-loop-effect
invariant-loop-effect g l =
    l.all.items ++ values_of_flat (g.K.Known.known l.known) (drop l.effect-index l.effects) ≡ values_of_flat (g.K.Known.known l.known) l.effects
