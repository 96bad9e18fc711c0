-- Actions with arguments put in.
use Rattle.std.specs.Prelude.{ℕ, ◌-◌, ◌==◌, if◌then◌else◌, Option, Some, None, Result, Err, List, [], ◌∷◌, ◌++◌, map, zip, filter, flat_map, fold, length, slice_get}
use Rattle.std.specs.BTreeMap.{insert_entry}
use Rattle.ps_world.specs.Names.{name_cmp}
use Rattle.ps_world.specs.Trees.{ExprTree, number, value_of, negated, operated, CondTree, CondTrees, all_of, any_of, no, implied, holds, same, compares, is_a, for_some, for_all, none, more}
use Rattle.ps_world.specs.Knowledge.{action_of, is_below, misfit_by, first_misfit_by}
use Rattle.ps_world.specs.declared.names.Name.{Name}
use Rattle.ps_world.specs.declared.schemas.Term.{Term}
use Rattle.ps_world.specs.declared.schemas.Term.TheVariants.{Var, Const}
use Rattle.ps_world.specs.declared.schemas.Lifted.{Lifted}
use Rattle.ps_world.specs.declared.expressions.Expr.{Expr}
use Rattle.ps_world.specs.declared.expressions.Expr.TheVariants.{Num, Fun, Neg, Bin}
use Rattle.ps_world.specs.declared.conditions.Cond.{Cond}
use Rattle.ps_world.specs.declared.conditions.Cond.TheVariants as to
use Rattle.ps_world.specs.declared.actions.ActionDef.{ActionDef}
use Rattle.ps_world.specs.declared.actions.Conditions.{Conditions}
use Rattle.ps_world.specs.declared.actions.Effects.{Effects}
use Rattle.ps_world.specs.declared.actions.Effect.{Effect}
use Rattle.ps_world.specs.declared.actions.Effect.TheVariants.{Add, Delete, Number}
use Rattle.ps_world.specs.declared.actions.Guarded.{Guarded}
use Rattle.ps_world.specs.declared.actions.Guarded.TheVariants.{Plain, When}
use Rattle.ps_world.specs.declared.actions.Spread.{Spread}
use Rattle.ps_world.specs.declared.actions.Spread.TheVariants.{Once, ForAll}
use Rattle.ps_world.specs.declared.domains.Param.{Param}
use Rattle.ps_world.specs.declared.domains.Domain.{Domain}
use Rattle.ps_action.specs.Refusals.{unless}
use Rattle.ps_action.specs.declared.acts.Act.{Act}
use Rattle.ps_action.specs.declared.acts.GroundAction.{GroundAction}
use Rattle.ps_action.specs.declared.refusals.GroundRefusal.{GroundRefusal}
use Rattle.ps_action.specs.declared.refusals.GroundRefusal.TheVariants.{NoAction, Arity, NoInstance, WrongType}

-- ---- arguments in place of variables

-- the argument of a variable, or the variable where it has none, its number without those of the parameters
abbrev pub put_var : List Name → ℕ → Option Name → Term
put_var args i (Some n) = Const n
put_var args i None = Var (i - length args)

-- a term with arguments in place of variables
abbrev pub put_term : List Name → Term → Term
put_term args (Var i) = put_var args i (slice_get args i)
put_term args (Const n) = Const n

abbrev pub put_lifted : List Name → Lifted → Lifted
put_lifted args l = record { head = l.head; terms = map (put_term args) l.terms }

abbrev pub put_tree : List Name → ExprTree → ExprTree
put_tree args (number n) = number n
put_tree args (value_of l) = value_of (put_lifted args l)
put_tree args (negated x) = negated (put_tree args x)
put_tree args (operated op x y) = operated op (put_tree args x) (put_tree args y)

abbrev pub put_expr : List Name → Expr → Expr
put_expr args (Num n) = Num n
put_expr args (Fun l) = Fun (put_lifted args l)
put_expr args (Neg x) = Neg (put_tree args x)
put_expr args (Bin op x y) = Bin op (put_tree args x) (put_tree args y)

abbrev mutual
  pub put_cond : List Name → CondTree → CondTree
  put_cond args (all_of cs) = all_of (put_conds args cs)
  put_cond args (any_of cs) = any_of (put_conds args cs)
  put_cond args (no c) = no (put_cond args c)
  put_cond args (implied a b) = implied (put_cond args a) (put_cond args b)
  put_cond args (holds l) = holds (put_lifted args l)
  put_cond args (same s t) = same (put_term args s) (put_term args t)
  put_cond args (compares rel x y) = compares rel (put_tree args x) (put_tree args y)
  put_cond args (is_a t kind) = is_a (put_term args t) kind
  put_cond args (for_some ps c) = for_some ps (put_cond args c)
  put_cond args (for_all ps c) = for_all ps (put_cond args c)

  pub put_conds : List Name → CondTrees → CondTrees
  put_conds args none = none
  put_conds args (more c cs) = more (put_cond args c) (put_conds args cs)

abbrev pub put_effect : List Name → Effect → Effect
put_effect args (Add l) = Add (put_lifted args l)
put_effect args (Delete l) = Delete (put_lifted args l)
put_effect args (Number how l x) = Number how (put_lifted args l) (put_expr args x)

-- the same of a condition as effects hold it
abbrev pub put_condition : List Name → Cond → Cond
put_condition args (to.And cs) = to.And (map (put_cond args) cs)
put_condition args (to.Or cs) = to.Or (map (put_cond args) cs)
put_condition args (to.Not c) = to.Not (put_cond args c)
put_condition args (to.Imply a b) = to.Imply (put_cond args a) (put_cond args b)
put_condition args (to.Holds l) = to.Holds (put_lifted args l)
put_condition args (to.Same s t) = to.Same (put_term args s) (put_term args t)
put_condition args (to.Cmp rel x y) = to.Cmp rel (put_tree args x) (put_tree args y)
put_condition args (to.IsA t kind) = to.IsA (put_term args t) kind
put_condition args (to.ForSome ps c) = to.ForSome ps (put_cond args c)
put_condition args (to.ForAll ps c) = to.ForAll ps (put_cond args c)

abbrev pub put_guarded : List Name → Guarded → Guarded
put_guarded args (Plain e) = Plain (put_effect args e)
put_guarded args (When c es) = When (put_condition args c) (map (put_effect args) es)

abbrev pub put_spread : List Name → Spread → Spread
put_spread args (Once g) = Once (put_guarded args g)
put_spread args (ForAll ps gs) = ForAll ps (map (put_guarded args) gs)

-- ---- ground actions

-- that each argument is an instance that fits its parameter
abbrev pub fitting : List Param → List Name → List CondTree
fitting params args = map (λ pair. is_a (Const pair.1) pair.0.kind) (zip params args)

-- conditions with arguments put in, and before them that each argument fits
abbrev pub put_list : List Param → List Name → List CondTree → List CondTree
put_list params args cs = fitting params args ++ map (put_cond args) cs

-- an action's conditions with arguments put in
abbrev pub put_conditions : List Param → List Name → Conditions → Conditions
put_conditions params args c = record {
  at_start = put_list params args c.at_start;
  over_all = put_list params args c.over_all;
  at_end = put_list params args c.at_end;
}

-- an action's effects with arguments put in
abbrev pub put_all_effects : List Name → Effects → Effects
put_all_effects args e = record { at_start = map (put_spread args) e.at_start; at_end = map (put_spread args) e.at_end }

-- the ground action of an act of this action
abbrev pub grounded : ActionDef → Act → GroundAction
grounded a act = record {
  act = act;
  duration = put_expr act.args a.duration;
  conditions = put_conditions a.params act.args a.conditions;
  effects = put_all_effects act.args a.effects;
}

-- why a name of this type can't stand for a parameter of that one, if it can't
abbrev pub unfit : Domain → Option Name → Name → Name → ℕ → Option GroundRefusal
unfit d kind want n at = misfit_by NoInstance WrongType d kind want n at

-- the first argument that is no instance, or that doesn't fit its parameter, counted from this place on
abbrev pub first_unfit : Domain → List (Name × Name) → List Param → List Name → ℕ → Option GroundRefusal
first_unfit d instances ps ns at = first_misfit_by NoInstance WrongType d instances ps ns at

-- an act of this action, if it is declared, or the first refusal
abbrev pub ground_by : Domain → List (Name × Name) → Option ActionDef → Act → Result GroundAction GroundRefusal
ground_by d instances None act = Err NoAction
ground_by d instances (Some a) act =
    if length a.params == length act.args then unless (first_unfit d instances a.params act.args 0) (grounded a act)
    else Err (Arity (length a.params) (length act.args))

-- the ground action of an act among these instances, or the first refusal
abbrev pub ground_act : Domain → List (Name × Name) → Act → Result GroundAction GroundRefusal
ground_act d instances act = ground_by d instances (action_of d act.action) act

-- ---- all ground actions

-- instances in the order of their names
abbrev pub with_named : List (Name × Name) → Name × Name → List (Name × Name)
with_named instances i = insert_entry name_cmp instances i.0 i.1

abbrev pub by_name : List (Name × Name) → List (Name × Name)
by_name instances = fold with_named [] instances

-- the names that may stand for a parameter, rising
abbrev pub choices : Domain → List (Name × Name) → Param → List Name
choices d instances p = map (λ i. i.0) (filter (λ i. is_below d i.1 p.kind) (by_name instances))

-- every list that takes one name of each of these lists, where the earlier names count first in the order
abbrev pub picks : List (List Name) → List (List Name)
picks [] = [] ∷ []
picks (ns ∷ rest) = flat_map (λ n. map (λ args. n ∷ args) (picks rest)) ns

-- all ground actions of an action, in the order of their arguments
abbrev pub all_of_action : Domain → List (Name × Name) → ActionDef → List GroundAction
all_of_action d instances a = map (λ args. grounded a (record { action = a.name; args = args })) (picks (map (choices d instances) a.params))

-- all ground actions, in the order of the domain's text
abbrev pub all_ground : Domain → List (Name × Name) → List GroundAction
all_ground d instances = flat_map (all_of_action d instances) d.actions

-- the most ground actions
abbrev pub most_ground : ℕ
most_ground = 50000
