-- Conditions that no type counts for, and a domain that has none.
use Rattle.std.specs.Prelude.{[]}
use Rattle.ps_world.specs.Names.{object}
use Rattle.ps_world.specs.Trees.{CondTree, CondTrees}
use Rattle.ps_world.specs.Leaves.{Leaves, AllIn, AllInEach}
use Rattle.ps_world.specs.declared.domains.Domain.{Domain}

-- nothing is said of a leaf, but that it asks for no type; and no quantifier is there
abbrev pub without_types : Leaves
without_types = record {
  atom = λ ps l. Unit {0};
  term = λ ps t. Unit {0};
  value = λ ps x. Unit {0};
  kind = λ ps kind. ⊥;
  bound = λ ps qs. ⊥;
  either = Unit {0};
}

-- no condition in it says that an instance has a type, or speaks of the instances of one
abbrev pub HasNoType : CondTree → Type 0
HasNoType c = AllIn without_types [] c

-- the same of each of several
abbrev pub HaveNoType : CondTrees → Type 0
HaveNoType cs = AllInEach without_types [] cs

-- a domain that declares nothing
abbrev pub no_domain : Domain
no_domain = record { name = object; types = []; constants = []; predicates = []; functions = []; actions = [] }
