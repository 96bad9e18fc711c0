use Rattle.std.proofs.Common.{◌≡◌, flat_map, take}
use Rattle.ps_action.specs.Touching.{changed_by_spread}
use Rattle.ps_eval.proofs.effects.changed_by.Given as goal

abbrev pub invariant-loop-spread : goal.invariant-loop-spread
invariant-loop-spread l = l.all.items ≡ flat_map changed_by_spread (take l.spread-index l.effects)
