-- What can be printed with a table of so many names: all of whose names the table has.
use Rattle.std.specs.Prelude.{ℕ, ◌<◌, All, [], length}
use Rattle.ps_world.specs.Numbers.{IsCount}
use Rattle.ps_world.specs.Trees.{ExprTree, number, value_of, negated, operated, CondTree}
use Rattle.ps_world.specs.Leaves.{Leaves, AllIn}
use Rattle.ps_world.specs.CondViews.{cond_tree}
use Rattle.ps_world.specs.declared.names.Name.{Name}
use Rattle.ps_world.specs.declared.schemas.Term.{Term}
use Rattle.ps_world.specs.declared.schemas.Term.TheVariants.{Var, Const}
use Rattle.ps_world.specs.declared.schemas.Lifted.{Lifted}
use Rattle.ps_world.specs.declared.facts.Fact.{Fact}
use Rattle.ps_world.specs.declared.domains.Param.{Param}
use Rattle.ps_world.specs.declared.edits.Edit.{Edit}
use Rattle.ps_world.specs.declared.edits.Edit.TheVariants.{AddInstance, RemoveInstance, AddFact, RemoveFact, SetValue, RemoveValue, SetGoal, RemoveGoal}
use Rattle.ps_world.specs.declared.edits.EditRefusal.{EditRefusal}
use Rattle.ps_world.specs.declared.edits.EditRefusal.TheVariants.{NoType, InstanceThere, Full, NoInstance, Constant, NoPredicate, Arity, WrongType, NoFact, NoFunction, NoValue, NoGoal}

-- the name is one of so many
abbrev pub IsOf : ℕ → Name → Type 0
IsOf count n = n.0 < count

-- a fact's names are
abbrev pub IsFactOf : ℕ → Fact → Type 0
IsFactOf count f = IsOf count f.head × All (IsOf count) f.args

-- the names of a variable and of its type are
abbrev pub IsParamOf : ℕ → Param → Type 0
IsParamOf count p = IsOf count p.name × IsOf count p.kind

-- a term is such a name, or one of so many variables
abbrev pub IsBoundTermOf : ℕ → ℕ → Term → Type 0
IsBoundTermOf count vars (Var i) = i < vars
IsBoundTermOf count vars (Const n) = IsOf count n

-- a head and its arguments are
abbrev pub IsBoundOf : ℕ → ℕ → Lifted → Type 0
IsBoundOf count vars l = IsOf count l.head × All (IsBoundTermOf count vars) l.terms

-- an expression's names are, where so many variables are in force, and its numbers are in range
abbrev pub IsBoundExprOf : ℕ → ℕ → ExprTree → Type 0
IsBoundExprOf count vars (number n) = IsCount n
IsBoundExprOf count vars (value_of l) = IsBoundOf count vars l
IsBoundExprOf count vars (negated x) = IsBoundExprOf count vars x
IsBoundExprOf count vars (operated op x y) = IsBoundExprOf count vars x × IsBoundExprOf count vars y

-- what a goal's leaves are: of such names, with no variable but those that a quantifier binds, and no type is asked for
abbrev pub goal_leaves : ℕ → Leaves
goal_leaves count = record {
  atom = λ ps l. IsBoundOf count (length ps) l;
  term = λ ps t. IsBoundTermOf count (length ps) t;
  value = λ ps x. IsBoundExprOf count (length ps) x;
  kind = λ ps kind. ⊥;
  bound = λ ps qs. All (IsParamOf count) qs;
  either = Unit {0};
}

-- a goal of such leaves
abbrev pub IsGoalOf : ℕ → CondTree → Type 0
IsGoalOf count c = AllIn (goal_leaves count) [] c

-- an edit's names are
abbrev pub IsEditOf : ℕ → Edit → Type 0
IsEditOf count (AddInstance n t) = IsOf count n × IsOf count t
IsEditOf count (RemoveInstance n) = IsOf count n
IsEditOf count (AddFact f) = IsFactOf count f
IsEditOf count (RemoveFact f) = IsFactOf count f
IsEditOf count (SetValue f x) = IsFactOf count f × IsCount x
IsEditOf count (RemoveValue f) = IsFactOf count f
IsEditOf count (SetGoal goal) = IsGoalOf count (cond_tree goal)
IsEditOf count RemoveGoal = Unit {0}

-- the names of an edit's refusal are
abbrev pub IsEditRefusalOf : ℕ → EditRefusal → Type 0
IsEditRefusalOf count NoType = Unit {0}
IsEditRefusalOf count InstanceThere = Unit {0}
IsEditRefusalOf count Full = Unit {0}
IsEditRefusalOf count (NoInstance n) = IsOf count n
IsEditRefusalOf count Constant = Unit {0}
IsEditRefusalOf count NoPredicate = Unit {0}
IsEditRefusalOf count (Arity want got) = Unit {0}
IsEditRefusalOf count (WrongType at) = Unit {0}
IsEditRefusalOf count NoFact = Unit {0}
IsEditRefusalOf count NoFunction = Unit {0}
IsEditRefusalOf count NoValue = Unit {0}
IsEditRefusalOf count NoGoal = Unit {0}
