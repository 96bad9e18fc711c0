-- What a call that may run out of memory says of the answer that it should give.
use Rattle.std.specs.Prelude.{◌≡◌, Option, None, Some, Result, Ok, Err}
use Rattle.ps_world.specs.declared.failures.Failure.{Failure}
use Rattle.ps_world.specs.declared.failures.Failure.TheVariants.{Refused, OutOfMemory}

-- a call gives this answer, with what it returns seen by `view`, or memory ran out, which says nothing
abbrev pub Gives : {A B R : Type 0} → (A → B) → Result A (Failure R) → Result B R → Type 0
Gives view (Ok value) answer = answer ≡ Ok (view value)
Gives view (Err (Refused refusal)) answer = answer ≡ Err refusal
Gives view (Err OutOfMemory) answer = Unit {0}

-- why a call refuses, if it does
abbrev pub refusal_of : {A R : Type 0} → Result A (Failure R) → Option R
refusal_of (Ok value) = None
refusal_of (Err (Refused refusal)) = Some refusal
refusal_of (Err OutOfMemory) = None
