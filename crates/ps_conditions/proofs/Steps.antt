-- The failure of one step is the failure of the steps that begin with it.
use Rattle.std.proofs.Common.{Result, Err, refl}
use Rattle.ps_world.specs.Failures.{Gives}
use Rattle.ps_world.specs.declared.failures.Failure.{Failure}
use Rattle.ps_world.specs.declared.failures.Failure.TheVariants.{Refused, OutOfMemory}
use Rattle.ps_conditions.specs.Steps.{◌>>=◌}

-- after the first step nothing else is read; where a call fails, it doesn't matter how what it returns is seen
pub gives_first : {A B R : Type 0} (step : Result A R) (next : A → Result B R) (f : Failure R) → Gives (λ x. x) (Err f) step → Gives (λ x. x) (Err f) (step >>= next)
gives_first step next (Refused r) h = rw h refl
gives_first step next OutOfMemory h = tt
