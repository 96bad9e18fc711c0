-- Facts that are found by the names that stand in them.
use Rattle.std.specs.Prelude.{◌≡◌, true, List, [], All, filter, map}
use Rattle.std.specs.List.{Contains}
use Rattle.std.specs.Ordering.{on, then_cmp}
use Rattle.std.specs.declared.cmp.Ordering.{Ordering}
use Rattle.ps_world.specs.Names.{name_cmp, same_name}
use Rattle.ps_world.specs.Facts.{fact_cmp}
use Rattle.ps_world.specs.Knowledge.{is_among}
use Rattle.ps_world.specs.declared.names.Name.{Name}
use Rattle.ps_world.specs.declared.facts.Fact.{Fact}
use Rattle.ps_problem.specs.declared.problem.namings.Naming.{Naming}

-- the order of namings: by the name, then by the fact
abbrev pub naming_cmp : Naming → Naming → Ordering
naming_cmp = then_cmp (on (λ x. x.name) name_cmp) (on (λ x. x.fact) fact_cmp)

-- the name is an argument of the fact
abbrev pub IsNaming : Naming → Type 0
IsNaming x = is_among x.name x.fact.args ≡ true

-- the name is noted with the fact
abbrev pub IsNoted : List Naming → Name → Fact → Type 0
IsNoted xs n f = Contains xs (record { name = n; fact = f })

-- each argument of the fact is noted with it
abbrev pub Covers : List Naming → Fact → Type 0
Covers xs f = (n : Name) → is_among n f.args ≡ true → IsNoted xs n f

-- of each fact its arguments are noted, and nothing that is no argument
pub record AreNamed (facts : List Fact) (namings : List Naming) : Type 0 where
  pub sound : All IsNaming namings
  pub whole : (f : Fact) → Contains facts f → Covers namings f

-- the fact that stands before all others with a head
abbrev pub lowest_of : Name → Fact
lowest_of n = record { head = n; args = [] }

-- the note that stands before all others with a name
abbrev pub lowest_with : Name → Naming
lowest_with n = record { name = n; fact = lowest_of (record { 0 = 0 }) }

-- the facts that a name is noted with
abbrev pub noted_with : Name → List Naming → List Fact
noted_with n xs = map (λ x. x.fact) (filter (λ x. same_name n x.name) xs)
