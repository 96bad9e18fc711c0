-- One level of an expression as a tree.
use Rattle.ps_world.specs.Trees.{ExprTree, number, value_of, negated, operated}
use Rattle.ps_world.specs.declared.expressions.Expr.{Expr}
use Rattle.ps_world.specs.declared.expressions.Expr.TheVariants.{Num, Fun, Neg, Bin}

-- the tree of an expression
abbrev pub expr_tree : Expr → ExprTree
expr_tree (Num n) = number n
expr_tree (Fun l) = value_of l
expr_tree (Neg e) = negated e
expr_tree (Bin op a b) = operated op a b
