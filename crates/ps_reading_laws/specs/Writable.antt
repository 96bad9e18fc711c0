-- The domains that can be written with a table of names.
use Rattle.std.specs.Prelude.{◌≡◌, ℕ, suc, ◌+◌, ◌≤◌, max, true, List, [], codes, length, All}
use Rattle.ps_world.specs.Names.{Table, name_text}
use Rattle.ps_world.specs.Trees.{CondTree, CondTrees}
use Rattle.ps_world.specs.Leaves.{Leaves, AllIn, AllInEach}
use Rattle.ps_world.specs.ExprViews.{expr_tree}
use Rattle.ps_world.specs.CondViews.{cond_tree}
use Rattle.ps_world.specs.declared.names.Name.{Name}
use Rattle.ps_world.specs.declared.actions.Effect.{Effect}
use Rattle.ps_world.specs.declared.actions.Effect.TheVariants.{Add, Delete, Number}
use Rattle.ps_world.specs.declared.actions.Guarded.{Guarded}
use Rattle.ps_world.specs.declared.actions.Guarded.TheVariants.{Plain, When}
use Rattle.ps_world.specs.declared.actions.Spread.{Spread}
use Rattle.ps_world.specs.declared.actions.Spread.TheVariants.{Once, ForAll}
use Rattle.ps_world.specs.declared.actions.ActionDef.{ActionDef}
use Rattle.ps_world.specs.declared.domains.Param.{Param}
use Rattle.ps_world.specs.declared.domains.Decl.{Decl}
use Rattle.ps_world.specs.declared.domains.Domain.{Domain}
use Rattle.ps_rules.specs.Sound.{cond_opens, expr_opens}
use Rattle.ps_text.specs.declared.lexing.Class.TheVariants as class
use Rattle.ps_grammar.specs.Marks.{is_fact_name, is_predicate_name}
use Rattle.ps_grammar.specs.Shape.{deepest}
use Rattle.ps_lists.specs.Lexemes.{mark_of}
use Rattle.ps_print.specs.CanonicalWords.{IsDomainOf}

-- ---- names

-- a predicate may have this name: it is none of `and`, `not`, `or`, `imply`, `exists`, `forall`, `when`, `assign`, `increase`, `decrease`,
-- `scale-up` and `scale-down`
abbrev pub IsPredicateName : Table → Name → Type 0
IsPredicateName names n = is_predicate_name (mark_of class.Name (name_text names n)) ≡ true

-- a name may stand at the head of a fact in a condition: it is none of `and`, `not`, `or`, `imply`, `exists`, `forall`, `when` and
-- `preference`
abbrev pub IsFactHead : Table → Name → Type 0
IsFactHead names n = is_fact_name (mark_of class.Name (name_text names n)) ≡ true

-- parameters of which none is named `duration`
abbrev pub AreParamNames : Table → List Param → Type 0
AreParamNames names ps = All (λ p. name_text names p.name ≡ codes "duration" → ⊥) ps

-- ---- conditions and effects

-- what is said of a condition's leaves here: each fact has a head that may stand there, and no variable that is bound is named `duration`
abbrev pub headed_leaves : Table → Leaves
headed_leaves names = record {
  atom = λ ps l. IsFactHead names l.head;
  term = λ ps t. Unit {0};
  value = λ ps x. Unit {0};
  kind = λ ps kind. Unit {0};
  bound = λ ps qs. AreParamNames names qs;
  either = Unit {0};
}

-- a condition of such leaves
abbrev pub HasFactHeads : Table → CondTree → Type 0
HasFactHeads names c = AllIn (headed_leaves names) [] c

-- the same of several
abbrev pub HaveFactHeads : Table → CondTrees → Type 0
HaveFactHeads names cs = AllInEach (headed_leaves names) [] cs

-- how many parentheses the text of an effect has open at one place, at most
abbrev pub effect_opens : Effect → ℕ
effect_opens (Add l) = 1
effect_opens (Delete l) = 2
effect_opens (Number how l x) = suc (max 1 (expr_opens (expr_tree x)))

-- a condition that can stand under so many parentheses: the heads of its facts may stand there, no variable that it binds is named
-- `duration`, and with the parentheses around it at most 64 are open at one place
abbrev pub IsWritableCond : Table → ℕ → CondTree → Type 0
IsWritableCond names outer c = HasFactHeads names c × (outer + cond_opens c ≤ deepest)

-- an effect that can stand under so many parentheses: with them at most 64 are open at one place
abbrev pub IsWritableEffect : ℕ → Effect → Type 0
IsWritableEffect outer e = outer + effect_opens e ≤ deepest

-- the same of an effect, or of effects with their condition: these stand in an `and`
abbrev pub IsWritableGuarded : Table → ℕ → Guarded → Type 0
IsWritableGuarded names outer (Plain e) = IsWritableEffect outer e
IsWritableGuarded names outer (When c es) = IsWritableCond names (outer + 1) (cond_tree c) × All (IsWritableEffect (outer + 2)) es

-- the same of what stands in a list of effects: no variable of a `forall` is named `duration`, and what it has stands in an `and`
abbrev pub IsWritableSpread : Table → ℕ → Spread → Type 0
IsWritableSpread names outer (Once g) = IsWritableGuarded names outer g
IsWritableSpread names outer (ForAll qs gs) = AreParamNames names qs × All (IsWritableGuarded names (outer + 2)) gs

-- ---- domains

-- a predicate that a domain can have: its name may be a predicate's, and none of its parameters is named `duration`
pub record IsWritablePredicate (names : Table) (decl : Decl) : Type 0 where
  pub name : IsPredicateName names decl.name
  pub params : AreParamNames names decl.params

-- an action that a domain can have: none of its parameters is named `duration`, its conditions and effects can stand under 4 parentheses, and
-- with the 3 around its duration at most 64 are open at one place
pub record IsWritableAction (names : Table) (a : ActionDef) : Type 0 where
  pub params : AreParamNames names a.params
  pub duration : 3 + expr_opens (expr_tree a.duration) ≤ deepest
  pub start : All (IsWritableCond names 4) a.conditions.at_start
  pub over : All (IsWritableCond names 4) a.conditions.over_all
  pub end : All (IsWritableCond names 4) a.conditions.at_end
  pub at_start : All (IsWritableSpread names 4) a.effects.at_start
  pub at_end : All (IsWritableSpread names 4) a.effects.at_end

-- A domain that a text can write: its names stand in the table, its predicates and actions can be written, and no parameter of a function is
-- named `duration`.
pub record IsWritableDomain (names : Table) (d : Domain) : Type 0 where
  pub known : IsDomainOf (length names) d
  pub predicates : All (IsWritablePredicate names) d.predicates
  pub functions : All (λ decl. AreParamNames names decl.params) d.functions
  pub actions : All (IsWritableAction names) d.actions
