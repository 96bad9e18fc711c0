use Rattle.std.proofs.Common.{◌≡◌, ◌++◌, drop, flat_map}
use Rattle.ps_ground.specs.Prepared.{alone_in}
use Rattle.ps_ground.proofs.prepared.plain_effects.Given as goal

-- those so far, with those among the effects that are left, are all
abbrev pub invariant-loop-spread : goal.invariant-loop-spread
invariant-loop-spread l = l.plain ++ flat_map alone_in (drop l.spread-index l.effects) ≡ flat_map alone_in l.effects
