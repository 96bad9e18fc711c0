-- What the words of a domain's text tell.
use Rattle.std.specs.Prelude.{◌≡◌, ℕ, Bool, true, false, not, Ok, Err, List}
use Rattle.ps_world.specs.DomainTexts.{domain_text}
use Rattle.ps_world.specs.Names.{Table}
use Rattle.ps_world.specs.declared.domains.Domain.{Domain}
use Rattle.ps_text.specs.Names.{AreNames}
use Rattle.ps_pddl.specs.Meaning.{domain_of}
use Rattle.ps_lists.specs.Nested.{Nesteds}
use Rattle.ps_pddl.specs.Reading.{IsRead}
use Rattle.ps_pddl.specs.Steps.{Read}
use Rattle.ps_pddl.specs.WellFormed.{AreCounted, IsWellFormed}
use Rattle.ps_pddl.specs.declared.refusals.Cap.{Cap}
use Rattle.ps_pddl.specs.declared.refusals.Cap.TheVariants.{Depth}
use Rattle.ps_pddl.specs.declared.refusals.DomainRefusal.{DomainRefusal}
use Rattle.ps_pddl.specs.declared.refusals.DomainRefusal.TheVariants.{Unknown, Twice, Arity, Kind, Cycle, Limit}

-- A text is read as one thing at most, with one table after it.
abbrev pub ReadingsAreOne : Type 0
ReadingsAreOne = (table : Table) (bytes : List ℕ) (r s : Read Domain) (after other : Table) → IsRead table bytes r after → IsRead table bytes s other → (r ≡ s) × (after ≡ other)

-- whether a limit is that of the levels of parentheses, which belongs to the shape
abbrev pub is_depth : Cap → Bool
is_depth Depth = true
is_depth cap = false

-- whether a refusal is of what a text means, and not of its words or of its shape
abbrev pub is_of_meaning : DomainRefusal → Bool
is_of_meaning (Unknown at name) = true
is_of_meaning (Twice at name) = true
is_of_meaning (Arity at) = true
is_of_meaning (Kind at) = true
is_of_meaning (Cycle name) = true
is_of_meaning (Limit at which) = not (is_depth which)
is_of_meaning refusal = false

-- The meaning of lists has no fault but its own.
abbrev pub MeaningsHaveOwnFaults : Type 0
MeaningsHaveOwnFaults = (ts : Nesteds) (r : DomainRefusal) → domain_of ts ≡ Err r → is_of_meaning r ≡ true

-- What lists mean is well formed, where their numbers are within the limits.
abbrev pub DomainsAreWellFormed : Type 0
DomainsAreWellFormed = (ts : Nesteds) (d : Domain) → AreCounted ts → domain_of ts ≡ Ok d → IsWellFormed d

-- So is what a text is read as.
abbrev pub ReadingsAreWellFormed : Type 0
ReadingsAreWellFormed = (table : Table) (bytes : List ℕ) (d : Domain) (after : Table) → IsRead table bytes (Ok d) after → IsWellFormed d

-- The canonical text of a domain that was read is read as that domain, with the names that it was read with.
abbrev pub CanonicalTextsAreRead : Type 0
CanonicalTextsAreRead = (table : Table) (bytes : List ℕ) (d : Domain) (after : Table) → AreNames table → IsRead table bytes (Ok d) after → (again : Table) × IsRead after (domain_text after d) (Ok d) again
