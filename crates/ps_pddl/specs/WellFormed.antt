-- What a domain that was read is like: what it names is declared, once in its list, within the limits, and of kinds that suit.
use Rattle.std.specs.Prelude.{◌≡◌, ℕ, ◌+◌, ◌≤◌, true, false, Option, Some, None, List, [], ◌∷◌, ◌++◌, length, All, slice_get}
use Rattle.std.specs.List.{AllPairs}
use Rattle.ps_world.specs.Names.{same_name}
use Rattle.ps_world.specs.Numbers.{IsCount}
use Rattle.ps_world.specs.Knowledge.{is_type, is_below, predicate_of, function_of, constant_of}
use Rattle.ps_world.specs.Trees.{ExprTree, number, value_of, negated, operated, CondTree}
use Rattle.ps_world.specs.Leaves.{Leaves, AllIn}
use Rattle.ps_world.specs.ExprViews.{expr_tree}
use Rattle.ps_world.specs.CondViews.{cond_tree}
use Rattle.ps_world.specs.declared.names.Name.{Name}
use Rattle.ps_world.specs.declared.schemas.Term.{Term}
use Rattle.ps_world.specs.declared.schemas.Term.TheVariants.{Var, Const}
use Rattle.ps_world.specs.declared.schemas.Lifted.{Lifted}
use Rattle.ps_world.specs.declared.actions.Effect.{Effect}
use Rattle.ps_world.specs.declared.actions.Effect.TheVariants as effect
use Rattle.ps_world.specs.declared.actions.Guarded.{Guarded}
use Rattle.ps_world.specs.declared.actions.Guarded.TheVariants.{Plain, When}
use Rattle.ps_world.specs.declared.actions.Spread.{Spread}
use Rattle.ps_world.specs.declared.actions.Spread.TheVariants.{Once, ForAll}
use Rattle.ps_world.specs.declared.actions.ActionDef.{ActionDef}
use Rattle.ps_world.specs.declared.domains.Param.{Param}
use Rattle.ps_world.specs.declared.domains.Decl.{Decl}
use Rattle.ps_world.specs.declared.domains.Domain.{Domain}
use Rattle.ps_lists.specs.Nested as nested
use Rattle.ps_lists.specs.Nested.{Nested, Nesteds, word, group}
use Rattle.ps_pddl.specs.Types.{is_cyclic}

-- the number of each word is within the limits, as that of each word that was read
abbrev mutual
  pub IsCounted : Nested → Type 0
  IsCounted (word l) = IsCount l.number
  IsCounted (group ts) = AreCounted ts

  pub AreCounted : Nesteds → Type 0
  AreCounted nested.none = Unit {0}
  AreCounted (nested.more t ts) = IsCounted t × AreCounted ts

-- no two of these have the same name
abbrev pub AreApart : {T : Type 0} → (T → Name) → List T → Type 0
AreApart name_of xs = AllPairs (λ x y. same_name (name_of x) (name_of y) ≡ false) xs

-- names with their types, of which there are at most so many, none twice, and each of a declared type
pub record AreTyped (d : Domain) (most : ℕ) (ps : List Param) : Type 0 where
  pub few : length ps ≤ most
  pub apart : AreApart (λ p. p.name) ps
  pub kinds : All (λ p. is_type d p.kind ≡ true) ps

-- declarations, of which there are at most 256, none twice, each with sound parameters
pub record AreDeclared (d : Domain) (decls : List Decl) : Type 0 where
  pub few : length decls ≤ 256
  pub apart : AreApart (λ decl. decl.name) decls
  pub params : All (λ decl. AreTyped d 6 decl.params) decls

-- a term is a parameter or a constant of this type
abbrev pub HasKind : Domain → List Param → Term → Name → Type 0
HasKind d ps (Var i) kind = (p : Param) × (slice_get ps i ≡ Some p) × (p.kind ≡ kind)
HasKind d ps (Const n) kind = (c : Param) × (constant_of d n ≡ Some c) × (c.kind ≡ kind)

-- arguments suit parameters, one for one: each is of the parameter's type or of one below it
abbrev pub AreSuited : Domain → List Param → List Param → List Term → Type 0
AreSuited d ps [] [] = Unit {0}
AreSuited d ps (want ∷ wants) (t ∷ ts) = ((kind : Name) × HasKind d ps t kind × (is_below d kind want.kind ≡ true)) × AreSuited d ps wants ts
AreSuited d ps wants ts = ⊥

-- a head that is declared so, with arguments that suit it
abbrev pub IsApplied : Domain → List Param → Option Decl → List Term → Type 0
IsApplied d ps None ts = ⊥
IsApplied d ps (Some decl) ts = AreSuited d ps decl.params ts

abbrev pub IsFactOf : Domain → List Param → Lifted → Type 0
IsFactOf d ps l = IsApplied d ps (predicate_of d l.head) l.terms

abbrev pub IsValueOf : Domain → List Param → Lifted → Type 0
IsValueOf d ps l = IsApplied d ps (function_of d l.head) l.terms

-- an expression whose functions are declared
abbrev pub IsExpr : Domain → List Param → ExprTree → Type 0
IsExpr d ps (number n) = IsCount n
IsExpr d ps (value_of l) = IsValueOf d ps l
IsExpr d ps (negated x) = IsExpr d ps x
IsExpr d ps (operated op x y) = IsExpr d ps x × IsExpr d ps y

-- a term that is a parameter or a constant
abbrev pub IsTerm : Domain → List Param → Term → Type 0
IsTerm d ps t = (kind : Name) × HasKind d ps t kind

-- what a condition's leaves are in an action with so many parameters: of predicates, functions and terms that are declared, and no type is
-- asked for; and at most two variables more are in force at one place, none of them twice, each of a declared type
abbrev pub declared_leaves : Domain → ℕ → Leaves
declared_leaves d own = record {
  atom = IsFactOf d;
  term = IsTerm d;
  value = IsExpr d;
  kind = λ ps kind. ⊥;
  bound = λ ps qs. AreTyped d (own + 2) (ps ++ qs);
  either = Unit {0};
}

-- a condition of such leaves, in an action with these parameters
abbrev pub IsCond : Domain → List Param → CondTree → Type 0
IsCond d ps c = AllIn (declared_leaves d (length ps)) ps c

-- an effect whose predicates and functions are declared
abbrev pub IsEffect : Domain → List Param → Effect → Type 0
IsEffect d ps (effect.Add l) = IsFactOf d ps l
IsEffect d ps (effect.Delete l) = IsFactOf d ps l
IsEffect d ps (effect.Number how l x) = IsValueOf d ps l × IsExpr d ps (expr_tree x)

-- the same of an effect with its condition, in an action with so many parameters
abbrev pub IsGuarded : Domain → ℕ → List Param → Guarded → Type 0
IsGuarded d own ps (Plain e) = IsEffect d ps e
IsGuarded d own ps (When c es) = AllIn (declared_leaves d own) ps (cond_tree c) × All (IsEffect d ps) es

-- the same of what stands in a list of effects of an action with these parameters: a `forall` binds one variable at most, whose name is that of
-- none of these, of a declared type
abbrev pub IsSpread : Domain → List Param → Spread → Type 0
IsSpread d ps (Once g) = IsGuarded d (length ps) ps g
IsSpread d ps (ForAll qs gs) = AreTyped d (length ps + 1) (ps ++ qs) × All (IsGuarded d (length ps) (ps ++ qs)) gs

-- an action with sound parameters, conditions and effects
pub record IsAction (d : Domain) (a : ActionDef) : Type 0 where
  pub params : AreTyped d 6 a.params
  pub duration : IsExpr d a.params (expr_tree a.duration)
  pub start : All (IsCond d a.params) a.conditions.at_start
  pub over : All (IsCond d a.params) a.conditions.over_all
  pub end : All (IsCond d a.params) a.conditions.at_end
  pub at_start : All (IsSpread d a.params) a.effects.at_start
  pub at_end : All (IsSpread d a.params) a.effects.at_end

-- a domain as reading gives it
pub record IsWellFormed (d : Domain) : Type 0 where
  pub types : AreTyped d 256 d.types
  pub no_cycle : All (λ p. is_cyclic d p ≡ false) d.types
  pub constants : AreTyped d 1000 d.constants
  pub predicates : AreDeclared d d.predicates
  pub functions : AreDeclared d d.functions
  pub few_actions : length d.actions ≤ 256
  pub actions_apart : AreApart (λ a. a.name) d.actions
  pub actions : All (IsAction d) d.actions
