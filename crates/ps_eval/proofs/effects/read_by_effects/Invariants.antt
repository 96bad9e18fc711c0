use Rattle.std.proofs.Common.{◌≡◌, flat_map, take}
use Rattle.ps_action.specs.Touching.{read_by_spread}
use Rattle.ps_eval.proofs.effects.read_by_effects.Given as goal

abbrev pub invariant-loop-spread : goal.invariant-loop-spread
invariant-loop-spread l = l.all.items ≡ flat_map read_by_spread (take l.spread-index l.effects)
