-- What a call says of its answer where memory may run out.
use Rattle.std.specs.Prelude.{Result, Ok, Err}
use Rattle.ps_world.specs.declared.failures.Failure.{Failure}
use Rattle.ps_world.specs.declared.failures.Failure.TheVariants.{Refused, OutOfMemory}

-- this holds of the answer, unless memory ran out, which says nothing
abbrev pub OnAnswer : {A R : Type 0} → (Result A R → Type 0) → Result A (Failure R) → Type 0
OnAnswer holds (Ok value) = holds (Ok value)
OnAnswer holds (Err (Refused refusal)) = holds (Err refusal)
OnAnswer holds (Err OutOfMemory) = Unit {0}
