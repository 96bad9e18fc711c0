-- Expressions and conditions with the same tree are the same.
use Rattle.std.proofs.Common.{◌≡◌, ap, sym, ◌∙◌}
use Rattle.ps_world.specs.Trees.{cond_trees, list_of, list_of-cond_trees}
use Rattle.ps_world.specs.ExprViews.{expr_tree}
use Rattle.ps_world.specs.CondViews.{cond_tree}
use Rattle.ps_world.specs.declared.expressions.Expr.{Expr}
use Rattle.ps_world.specs.declared.expressions.Expr.TheVariants.{Num, Fun, Neg, Bin}
use Rattle.ps_world.specs.declared.conditions.Cond.{Cond}
use Rattle.ps_world.specs.declared.conditions.Cond.TheVariants.{And, Or, Not, Imply, Holds, Same, Cmp, IsA, ForSome, ForAll}

pub expr_tree_one : (a b : Expr) → expr_tree a ≡ expr_tree b → a ≡ b
expr_tree_one (Num n) (Num m) e = cc
expr_tree_one (Fun l) (Fun m) e = cc
expr_tree_one (Neg x) (Neg y) e = cc
expr_tree_one (Bin op a b) (Bin oq c d) e = cc
expr_tree_one x y e = absurd (cc)

pub cond_tree_one : (a b : Cond) → cond_tree a ≡ cond_tree b → a ≡ b
cond_tree_one (And cs) (And ds) e =
    let trees : cond_trees cs ≡ cond_trees ds = cc in
    ap And (sym (list_of-cond_trees cs) ∙ ap list_of trees ∙ list_of-cond_trees ds)
cond_tree_one (Or cs) (Or ds) e =
    let trees : cond_trees cs ≡ cond_trees ds = cc in
    ap Or (sym (list_of-cond_trees cs) ∙ ap list_of trees ∙ list_of-cond_trees ds)
cond_tree_one (Not c) (Not d) e = cc
cond_tree_one (Imply a b) (Imply c d) e = cc
cond_tree_one (Holds l) (Holds m) e = cc
cond_tree_one (Same s t) (Same u v) e = cc
cond_tree_one (Cmp r a b) (Cmp q c d) e = cc
cond_tree_one (IsA t k) (IsA u l) e = cc
cond_tree_one (ForSome ps c) (ForSome qs d) e = cc
cond_tree_one (ForAll ps c) (ForAll qs d) e = cc
cond_tree_one x y e = absurd (cc)
