-- What is said of each leaf of a condition.
use Rattle.std.specs.Prelude.{List, ◌++◌}
use Rattle.ps_world.specs.Trees.{ExprTree, CondTree, CondTrees, all_of, any_of, no, implied, holds, same, compares, is_a, for_some, for_all, none, more}
use Rattle.ps_world.specs.declared.names.Name.{Name}
use Rattle.ps_world.specs.declared.schemas.Term.{Term}
use Rattle.ps_world.specs.declared.schemas.Lifted.{Lifted}
use Rattle.ps_world.specs.declared.domains.Param.{Param}

-- what is said of a fact, of a side of `(= a b)`, of a number that is compared and of a type that is asked for, where these variables are
-- in force; of the variables that a quantifier binds there; and of each `or` and `imply`
pub record Leaves : Type 1 where
  pub atom : List Param → Lifted → Type 0
  pub term : List Param → Term → Type 0
  pub value : List Param → ExprTree → Type 0
  pub kind : List Param → Name → Type 0
  pub bound : List Param → List Param → Type 0
  pub either : Type 0

abbrev mutual
  -- each leaf of a condition is so, where these variables are in force; below a quantifier its variables are too, after them
  pub AllIn : Leaves → List Param → CondTree → Type 0
  AllIn so ps (all_of cs) = AllInEach so ps cs
  AllIn so ps (any_of cs) = so.either × AllInEach so ps cs
  AllIn so ps (no c) = AllIn so ps c
  AllIn so ps (implied a b) = so.either × (AllIn so ps a × AllIn so ps b)
  AllIn so ps (holds l) = so.atom ps l
  AllIn so ps (same s t) = so.term ps s × so.term ps t
  AllIn so ps (compares rel x y) = so.value ps x × so.value ps y
  AllIn so ps (is_a t kind) = so.kind ps kind
  AllIn so ps (for_some qs c) = so.bound ps qs × AllIn so (ps ++ qs) c
  AllIn so ps (for_all qs c) = so.bound ps qs × AllIn so (ps ++ qs) c

  -- each leaf of each of several is
  pub AllInEach : Leaves → List Param → CondTrees → Type 0
  AllInEach so ps none = Unit {0}
  AllInEach so ps (more c cs) = AllIn so ps c × AllInEach so ps cs
