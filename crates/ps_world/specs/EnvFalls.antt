-- The names outside are fewer.
use Rattle.std.specs.Prelude.{◌≤◌, max, [], ◌∷◌, length}
use Rattle.std.proofs.Common.{arith, length-append}
use Rattle.ps_world.specs.Envs.{names_of}
use Rattle.ps_world.specs.declared.bound.Names.{Names}
use Rattle.ps_world.specs.declared.bound.Names.TheVariants.{Given, More}
use Rattle.ps_world.specs.declared.bound.Env.TheDeep.{deep-Names}

pub env_falls : (e : Names) → max (deep-Names e) 0 ≤ length (names_of e)
env_falls (Given ns) = omega arith
env_falls (More outer n) = omega (arith, length-append outer.now (n ∷ []))
