-- Indexes of lists by the names in them.
use Rattle.std.specs.Prelude.{◌≡◌, ℕ, List, position, Some, None, if◌then◌else◌}
use Rattle.std.specs.Option.{option_or}
use Rattle.std.specs.Map.{lookup}
use Rattle.ps_world.specs.Names.{same_name}
use Rattle.ps_world.specs.declared.names.Name.{Name}
use Rattle.ps_world.specs.declared.domains.Domain.{Domain}

-- places that have each name of the list at its first place, and no other name
abbrev pub IsIndexOf : {T : Type 0} → (T → Name) → List T → List (Name × ℕ) → Type 0
IsIndexOf name_of list places = (n : Name) → lookup (same_name n) places ≡ position (λ x. same_name n (name_of x)) list

-- a name with no place has this one afterwards, and each name with a place keeps it
abbrev pub Notes : List (Name × ℕ) → List (Name × ℕ) → Name → ℕ → Type 0
Notes old new name place = (n : Name) → lookup (same_name n) new ≡ option_or (lookup (same_name n) old) (if same_name n name then Some place else None)

-- the places of each list of a domain
pub record IsIndexed (d : Domain) (types constants predicates functions actions : List (Name × ℕ)) : Type 0 where
  pub types_in : IsIndexOf (λ p. p.name) d.types types
  pub constants_in : IsIndexOf (λ p. p.name) d.constants constants
  pub predicates_in : IsIndexOf (λ decl. decl.name) d.predicates predicates
  pub functions_in : IsIndexOf (λ decl. decl.name) d.functions functions
  pub actions_in : IsIndexOf (λ action. action.name) d.actions actions
