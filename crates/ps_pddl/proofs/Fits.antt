-- What a domain must be like for the grammar to take its canonical text: heads that may stand where they do, and few enough levels.
use Rattle.std.proofs.Common.{◌≡◌, ℕ, ℤ, suc, true, List, ◌++◌, codes}
use Rattle.std.specs.List.{All}
use Rattle.ps_world.specs.Names.{Table, name_text}
use Rattle.ps_world.specs.Trees.{ExprTree, number, value_of, negated, operated, CondTree, CondTrees, all_of, any_of, no, implied, holds, same, compares, for_some, for_all}
use Rattle.ps_world.specs.Trees as tree
use Rattle.ps_world.specs.Leaves.{Leaves, AllIn, AllInEach}
use Rattle.ps_world.specs.ExprViews.{expr_tree}
use Rattle.ps_world.specs.CondViews.{cond_tree}
use Rattle.ps_world.specs.declared.names.Name.{Name}
use Rattle.ps_world.specs.declared.schemas.Term.{Term}
use Rattle.ps_world.specs.declared.schemas.Lifted.{Lifted}
use Rattle.ps_world.specs.declared.expressions.Op.{Op}
use Rattle.ps_world.specs.declared.expressions.Expr.{Expr}
use Rattle.ps_world.specs.declared.conditions.Cond.{Cond}
use Rattle.ps_world.specs.declared.conditions.Rel.{Rel}
use Rattle.ps_world.specs.declared.actions.NumOp.{NumOp}
use Rattle.ps_world.specs.declared.actions.Effect.{Effect}
use Rattle.ps_world.specs.declared.actions.Effect.TheVariants.{Add, Delete, Number}
use Rattle.ps_world.specs.declared.actions.Guarded.{Guarded}
use Rattle.ps_world.specs.declared.actions.Guarded.TheVariants.{Plain, When}
use Rattle.ps_world.specs.declared.actions.Spread.{Spread}
use Rattle.ps_world.specs.declared.actions.Spread.TheVariants.{Once, ForAll}
use Rattle.ps_world.specs.declared.actions.ActionDef.{ActionDef}
use Rattle.ps_world.specs.declared.domains.Param.{Param}
use Rattle.ps_world.specs.declared.domains.Decl.{Decl}
use Rattle.ps_world.specs.declared.domains.Domain.{Domain}
use Rattle.ps_text.specs.declared.lexing.Class.TheVariants as class
use Rattle.ps_grammar.specs.Marks.{is_predicate_name, is_fact_name}
use Rattle.ps_grammar.specs.declared.marks.Mark.TheVariants as mark
use Rattle.ps_lists.specs.Lexemes.{mark_of}
use Rattle.ps_pddl.proofs.CanonicalForms.{name_mark}

-- a variable may have this name: it isn't ?duration
abbrev pub IsVariableName : Table → Name → Type 0
IsVariableName names n = mark_of class.Variable (codes "?" ++ name_text names n) ≡ mark.Variable

-- parameters that may be variables
abbrev pub FitParams : Table → List Param → Type 0
FitParams names ps = All (λ p. IsVariableName names p.name) ps

-- each variable that a quantifier binds may be one
abbrev pub free_leaves : Table → Leaves
free_leaves names = record {
  atom = λ ps l. Unit {0};
  term = λ ps t. Unit {0};
  value = λ ps x. Unit {0};
  kind = λ ps kind. Unit {0};
  bound = λ ps qs. FitParams names qs;
  either = Unit {0};
}

-- the same of a condition where these variables are in force
abbrev pub BindsFree : Table → List Param → CondTree → Type 0
BindsFree names ps c = AllIn (free_leaves names) ps c

abbrev pub BindFree : Table → List Param → CondTrees → Type 0
BindFree names ps cs = AllInEach (free_leaves names) ps cs

-- an expression with at most so many levels
pub data FitsExpr : ℕ → ExprTree → Type 0 where
  fits_number : (room : ℕ) (n : ℤ) → FitsExpr room (number n)
  fits_value : (room : ℕ) (f : Lifted) → FitsExpr (suc room) (value_of f)
  fits_negation : (room : ℕ) (x : ExprTree) → FitsExpr room x → FitsExpr (suc room) (negated x)
  fits_operation : (room : ℕ) (o : Op) (x y : ExprTree) → FitsExpr room x → FitsExpr room y → FitsExpr (suc room) (operated o x y)

mutual
  -- a condition with at most so many levels
  pub data FitsCond (names : Table) : ℕ → CondTree → Type 0 where
    fits_all : (room : ℕ) (cs : CondTrees) → FitConds names room cs → FitsCond names (suc room) (all_of cs)
    fits_any : (room : ℕ) (cs : CondTrees) → FitConds names room cs → FitsCond names (suc room) (any_of cs)
    fits_not : (room : ℕ) (c : CondTree) → FitsCond names room c → FitsCond names (suc room) (no c)
    fits_implied : (room : ℕ) (a b : CondTree) → FitsCond names room a → FitsCond names room b → FitsCond names (suc room) (implied a b)
    fits_some : (room : ℕ) (qs : List Param) (c : CondTree) → FitParams names qs → FitsCond names room c → FitsCond names (suc room) (for_some qs c)
    fits_each : (room : ℕ) (qs : List Param) (c : CondTree) → FitParams names qs → FitsCond names room c → FitsCond names (suc room) (for_all qs c)
    fits_fact : (room : ℕ) (f : Lifted) → is_fact_name (name_mark names f.head) ≡ true → FitsCond names (suc room) (holds f)
    fits_same : (room : ℕ) (a b : Term) → FitsCond names (suc room) (same a b)
    fits_comparison : (room : ℕ) (r : Rel) (x y : ExprTree) → FitsExpr room x → FitsExpr room y → FitsCond names (suc room) (compares r x y)

  -- the same of several
  pub data FitConds (names : Table) : ℕ → CondTrees → Type 0 where
    fit_none : (room : ℕ) → FitConds names room tree.none
    fit_more : (room : ℕ) (c : CondTree) (cs : CondTrees) → FitsCond names room c → FitConds names room cs → FitConds names room (tree.more c cs)

mutual
  -- a condition that fits binds what may be a variable
  pub fits_free : (names : Table) (room : ℕ) (ps : List Param) (c : CondTree) → FitsCond names room c → BindsFree names ps c
  fits_free names _ ps _ (fits_all room cs h) = fit_free names room ps cs h
  fits_free names _ ps _ (fits_not room c h) = fits_free names room ps c h
  fits_free names _ ps _ (fits_any room cs h) = (tt, fit_free names room ps cs h)
  fits_free names _ ps _ (fits_implied room a b h k) = (tt, (fits_free names room ps a h, fits_free names room ps b k))
  fits_free names _ ps _ (fits_some room qs c free h) = (free, fits_free names room (ps ++ qs) c h)
  fits_free names _ ps _ (fits_each room qs c free h) = (free, fits_free names room (ps ++ qs) c h)
  fits_free names _ ps _ (fits_fact room f h) = tt
  fits_free names _ ps _ (fits_same room a b) = (tt, tt)
  fits_free names _ ps _ (fits_comparison room r x y h k) = (tt, tt)

  fit_free : (names : Table) (room : ℕ) (ps : List Param) (cs : CondTrees) → FitConds names room cs → BindFree names ps cs
  fit_free names _ ps _ (fit_none room) = tt
  fit_free names _ ps _ (fit_more room c cs h k) = (fits_free names room ps c h, fit_free names room ps cs k)

-- an effect with at most so many levels
pub data FitsEffect (names : Table) : ℕ → Effect → Type 0 where
  fits_addition : (room : ℕ) (f : Lifted) → is_predicate_name (name_mark names f.head) ≡ true → FitsEffect names (suc room) (Add f)
  fits_deletion : (room : ℕ) (f : Lifted) → FitsEffect names (suc (suc room)) (Delete f)
  fits_change : (room : ℕ) (how : NumOp) (f : Lifted) (x : Expr) → FitsExpr (suc room) (expr_tree x) → FitsEffect names (suc (suc room)) (Number how f x)

-- an effect, or effects with their condition, with at most so many levels
pub data FitsGuarded (names : Table) : ℕ → Guarded → Type 0 where
  fits_plain : (room : ℕ) (e : Effect) → FitsEffect names room e → FitsGuarded names room (Plain e)
  fits_when : (room : ℕ) (c : Cond) (es : List Effect) → FitsCond names (suc room) (cond_tree c) → All (FitsEffect names room) es → FitsGuarded names (suc (suc room)) (When c es)

-- the same of what stands in a list of effects
pub data FitsSpread (names : Table) : ℕ → Spread → Type 0 where
  fits_once : (room : ℕ) (g : Guarded) → FitsGuarded names room g → FitsSpread names room (Once g)
  fits_for_each : (room : ℕ) (qs : List Param) (gs : List Guarded) → FitParams names qs → All (FitsGuarded names room) gs → FitsSpread names (suc (suc room)) (ForAll qs gs)

-- an action: its duration stands under 3 levels, each condition and effect under 4
pub record FitsAction (names : Table) (a : ActionDef) : Type 0 where
  pub params : FitParams names a.params
  pub duration : FitsExpr 61 (expr_tree a.duration)
  pub start : All (FitsCond names 60) a.conditions.at_start
  pub over : All (FitsCond names 60) a.conditions.over_all
  pub end : All (FitsCond names 60) a.conditions.at_end
  pub at_start : All (FitsSpread names 60) a.effects.at_start
  pub at_end : All (FitsSpread names 60) a.effects.at_end

-- a predicate, which has no name of a form
pub record FitsPredicate (names : Table) (decl : Decl) : Type 0 where
  pub head : is_predicate_name (name_mark names decl.name) ≡ true
  pub params : FitParams names decl.params

-- a domain
pub record FitsDomain (names : Table) (d : Domain) : Type 0 where
  pub predicates : All (FitsPredicate names) d.predicates
  pub functions : All (λ decl. FitParams names decl.params) d.functions
  pub actions : All (FitsAction names) d.actions
