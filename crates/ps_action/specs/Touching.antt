-- What conditions read and what changes, one by one; where a variable stands, all that stands at a place.
use Rattle.std.specs.Prelude.{if◌then◌else◌, Option, Some, None, List, [], ◌∷◌, ◌++◌, map, flat_map}
use Rattle.ps_world.specs.Trees.{ExprTree, number, value_of, negated, operated, CondTree, CondTrees, all_of, any_of, no, implied, holds, same, compares, is_a, for_some, for_all, none, more, cond_trees}
use Rattle.ps_world.specs.ExprViews.{expr_tree}
use Rattle.ps_world.specs.CondViews.{cond_tree}
use Rattle.ps_world.specs.Knowledge.{ground}
use Rattle.ps_world.specs.declared.schemas.Term.{Term}
use Rattle.ps_world.specs.declared.schemas.Term.TheVariants.{Var, Const}
use Rattle.ps_world.specs.declared.schemas.Lifted.{Lifted}
use Rattle.ps_world.specs.declared.actions.Effect.{Effect}
use Rattle.ps_world.specs.declared.actions.Effect.TheVariants.{Add, Delete, Number}
use Rattle.ps_world.specs.declared.actions.Guarded.{Guarded}
use Rattle.ps_world.specs.declared.actions.Guarded.TheVariants.{Plain, When}
use Rattle.ps_world.specs.declared.actions.Spread.{Spread}
use Rattle.ps_world.specs.declared.actions.Spread.TheVariants.{Once, ForAll}
use Rattle.ps_world.specs.declared.edits.Edit.{Edit}
use Rattle.ps_world.specs.declared.edits.Edit.TheVariants.{AddInstance, RemoveInstance, AddFact, RemoveFact, SetValue, RemoveValue, SetGoal, RemoveGoal}
use Rattle.ps_action.specs.declared.touched.Touched.{Touched}
use Rattle.ps_action.specs.declared.touched.Touched.TheVariants.{Fact, Value, Instance, Facts, Values, Instances}
use Rattle.ps_action.specs.Places.{has_var, place_of}

-- the fact that a head with terms is, or its place, where a variable stands in it
abbrev pub fact_of : Lifted → Touched
fact_of l = if has_var l then Facts (place_of l) else Fact (ground l)

-- the same of a function term
abbrev pub value_at : Lifted → Touched
value_at l = if has_var l then Values (place_of l) else Value (ground l)

-- the instance that a term names, or all instances, where it is a variable
abbrev pub named_by : Term → Touched
named_by (Var i) = Instances
named_by (Const n) = Instance n

-- the instances that stand as arguments of a fact or a function term
abbrev pub arguments : Lifted → List Touched
arguments l = map named_by l.terms

-- what an expression reads: its function terms and their arguments
abbrev pub read_by_expr : ExprTree → List Touched
read_by_expr (number n) = []
read_by_expr (value_of l) = value_at l ∷ arguments l
read_by_expr (negated x) = read_by_expr x
read_by_expr (operated op x y) = read_by_expr x ++ read_by_expr y

abbrev mutual
  -- What a condition reads: its facts and function terms with their arguments, the names that it compares, and the name whose
  -- type it asks for; and all instances, where it binds variables.
  pub read_by : CondTree → List Touched
  read_by (all_of cs) = read_by_all cs
  read_by (any_of cs) = read_by_all cs
  read_by (no c) = read_by c
  read_by (implied a b) = read_by a ++ read_by b
  read_by (holds l) = fact_of l ∷ arguments l
  read_by (same s t) = named_by s ∷ named_by t ∷ []
  read_by (compares rel x y) = read_by_expr x ++ read_by_expr y
  read_by (is_a t kind) = named_by t ∷ []
  read_by (for_some ps c) = Instances ∷ read_by c
  read_by (for_all ps c) = Instances ∷ read_by c

  -- the same of several
  pub read_by_all : CondTrees → List Touched
  read_by_all none = []
  read_by_all (more c cs) = read_by c ++ read_by_all cs

-- the same of a list of conditions
abbrev pub read_by_list : List CondTree → List Touched
read_by_list cs = read_by_all (cond_trees cs)

-- what the right side of an effect reads, if it is a numeric one
abbrev pub read_by_effect : Effect → List Touched
read_by_effect (Add l) = []
read_by_effect (Delete l) = []
read_by_effect (Number how l x) = read_by_expr (expr_tree x)

-- the same of an effect or of several under a condition, which is read too
abbrev pub read_by_guarded : Guarded → List Touched
read_by_guarded (Plain e) = read_by_effect e
read_by_guarded (When c es) = read_by (cond_tree c) ++ flat_map read_by_effect es

-- the same of what stands once or for each choice of instances: all instances too, where it binds variables
abbrev pub read_by_spread : Spread → List Touched
read_by_spread (Once g) = read_by_guarded g
read_by_spread (ForAll ps gs) = Instances ∷ flat_map read_by_guarded gs

-- what an effect changes
abbrev pub changed_by_effect : Effect → Touched
changed_by_effect (Add l) = fact_of l
changed_by_effect (Delete l) = fact_of l
changed_by_effect (Number how l x) = value_at l

-- what an effect changes, or effects under a condition, whether it holds or not
abbrev pub changed_by_guarded : Guarded → List Touched
changed_by_guarded (Plain e) = changed_by_effect e ∷ []
changed_by_guarded (When c es) = map changed_by_effect es

-- the same of what stands once or for each choice of instances
abbrev pub changed_by_spread : Spread → List Touched
changed_by_spread (Once g) = changed_by_guarded g
changed_by_spread (ForAll ps gs) = flat_map changed_by_guarded gs

-- what an edit changes; the goal is none of these
abbrev pub changed_by_edit : Edit → Option Touched
changed_by_edit (AddInstance n t) = Some (Instance n)
changed_by_edit (RemoveInstance n) = Some (Instance n)
changed_by_edit (AddFact f) = Some (Fact f)
changed_by_edit (RemoveFact f) = Some (Fact f)
changed_by_edit (SetValue f x) = Some (Value f)
changed_by_edit (RemoveValue f) = Some (Value f)
changed_by_edit (SetGoal c) = None
changed_by_edit RemoveGoal = None
