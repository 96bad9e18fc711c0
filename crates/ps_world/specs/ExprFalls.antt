-- What is in a box is smaller than the box.
use Rattle.std.specs.Prelude.{◌≤◌, max}
use Rattle.std.proofs.Common.{arith}
use Rattle.ps_world.specs.Trees.{expr_rank}
use Rattle.ps_world.specs.ExprViews.{expr_tree}
use Rattle.ps_world.specs.declared.expressions.Expr.{Expr}
use Rattle.ps_world.specs.declared.expressions.Expr.TheVariants.{Num, Fun, Neg, Bin}
use Rattle.ps_world.specs.declared.expressions.BoxedExpr.TheDeep.{deep-Expr}

deep_le-rank : (e : Expr) → deep-Expr e ≤ expr_rank (expr_tree e)
deep_le-rank (Num n) = omega arith
deep_le-rank (Fun l) = omega arith
deep_le-rank (Neg e) = omega arith
deep_le-rank (Bin op a b) = omega arith

pub expr_falls : (e : Expr) → max (deep-Expr e) 0 ≤ expr_rank (expr_tree e)
expr_falls e = omega (arith, deep_le-rank e)
