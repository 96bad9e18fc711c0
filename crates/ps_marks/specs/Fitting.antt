-- Domains whose adds fit the declarations of their predicates.
use Rattle.std.specs.Prelude.{◌≡◌, true, Some, List, ◌++◌, Contains, slice_get}
use Rattle.std.specs.List.{AllByRecursion, AllZip}
use Rattle.ps_world.specs.Knowledge.{constant_of, is_below, kind_of, predicate_of}
use Rattle.ps_world.specs.declared.actions.ActionDef.{ActionDef}
use Rattle.ps_world.specs.declared.actions.Effect.{Effect}
use Rattle.ps_world.specs.declared.actions.Effect.TheVariants.{Add, Delete, Number}
use Rattle.ps_world.specs.declared.actions.Guarded.{Guarded}
use Rattle.ps_world.specs.declared.actions.Guarded.TheVariants.{Plain, When}
use Rattle.ps_world.specs.declared.actions.Spread.{Spread}
use Rattle.ps_world.specs.declared.actions.Spread.TheVariants.{Once, ForAll}
use Rattle.ps_world.specs.declared.domains.Decl.{Decl}
use Rattle.ps_world.specs.declared.domains.Domain.{Domain}
use Rattle.ps_world.specs.declared.domains.Param.{Param}
use Rattle.ps_world.specs.declared.known.Knowledge.{Knowledge}
use Rattle.ps_world.specs.declared.schemas.Term.{Term}
use Rattle.ps_world.specs.declared.schemas.Term.TheVariants.{Var, Const}

-- a term suits a parameter, where these are the variables: a variable or a constant of its type or of one below it
abbrev pub TermSuits : Domain → List Param → Param → Term → Type 0
TermSuits d ps want (Var i) = (p : Param) × (slice_get ps i ≡ Some p) × (is_below d p.kind want.kind ≡ true)
TermSuits d ps want (Const n) = (c : Param) × (constant_of d n ≡ Some c) × (is_below d c.kind want.kind ≡ true)

-- an add is of a declared predicate, with a term that suits for each parameter
abbrev pub AddSuits : Domain → List Param → Effect → Type 0
AddSuits d ps (Add l) = (decl : Decl) × (predicate_of d l.head ≡ Some decl) × AllZip (TermSuits d ps) decl.params l.terms
AddSuits d ps (Delete l) = Unit {0}
AddSuits d ps (Number how l x) = Unit {0}

-- so is each add of a part
abbrev pub PartSuits : Domain → List Param → Guarded → Type 0
PartSuits d ps (Plain e) = AddSuits d ps e
PartSuits d ps (When c es) = AllByRecursion (AddSuits d ps) es

-- so is each add of what stands in a list of effects, where a `forall` has variables of its own behind the others
abbrev pub SpreadSuits : Domain → List Param → Spread → Type 0
SpreadSuits d ps (Once g) = PartSuits d ps g
SpreadSuits d ps (ForAll qs gs) = AllByRecursion (PartSuits d (ps ++ qs)) gs

-- so is each add of the actions of a domain
pub record AddsSuit (d : Domain) : Type 0 where
  pub at_start : (a : ActionDef) → Contains d.actions a → AllByRecursion (SpreadSuits d a.params) a.effects.at_start
  pub at_end : (a : ActionDef) → Contains d.actions a → AllByRecursion (SpreadSuits d a.params) a.effects.at_end

-- the constants of the domain are instances of their types
abbrev pub HasConstants : Domain → Knowledge → Type 0
HasConstants d k = (c : Param) → Contains d.constants c → kind_of k c.name ≡ Some c.kind
