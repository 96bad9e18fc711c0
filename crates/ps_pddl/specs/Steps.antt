-- Reading, step by step, up to the first fault.
use Rattle.std.specs.Prelude.{Option, Some, None, Result, Err}
use Rattle.ps_conditions.specs.Steps.{Steps, refusable}
use Rattle.ps_pddl.specs.declared.refusals.DomainRefusal.{DomainRefusal}

-- what is read, or the first fault
abbrev pub Read : Type 0 → Type 0
Read A = Result A DomainRefusal

-- the steps of such reading
abbrev pub reads : Steps
reads = refusable DomainRefusal

-- this fault, or else what is read
abbrev pub unless : {A : Type 0} → Option DomainRefusal → Read A → Read A
unless (Some fault) read = Err fault
unless None read = read
