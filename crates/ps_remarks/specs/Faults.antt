-- At which byte a fault of a domain's text is.
use Rattle.std.specs.Prelude.{ℕ, Option, Some, None}
use Rattle.ps_pddl.specs.declared.refusals.DomainRefusal.{DomainRefusal}
use Rattle.ps_pddl.specs.declared.refusals.DomainRefusal.TheVariants.{Lex, Unexpected, Unsupported, Unknown, Twice, Arity, Kind, Cycle, Limit}

-- the byte that a fault names; types that are their own parents name none
abbrev pub fault_at : DomainRefusal → Option ℕ
fault_at (Lex at) = Some at
fault_at (Unexpected at) = Some at
fault_at (Unsupported at what) = Some at
fault_at (Unknown at name) = Some at
fault_at (Twice at name) = Some at
fault_at (Arity at) = Some at
fault_at (Kind at) = Some at
fault_at (Cycle name) = None
fault_at (Limit at which) = Some at
