-- What is told in place of a value.
use Rattle.std.specs.Prelude.{Option, Some, None, Result, Ok, Err}

-- this, unless something is at fault
abbrev pub unless : {R A : Type 0} → Option R → A → Result A R
unless (Some fault) new = Err fault
unless None new = Ok new
