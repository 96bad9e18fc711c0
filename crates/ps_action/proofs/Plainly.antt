-- Effects that stand once, with no condition, stand for themselves: no names are put in.
use Rattle.std.proofs.Common.{◌≡◌, ◌-◌, List, [], ◌∷◌, map, refl, ap, arith}
use Rattle.ps_world.specs.Trees.{ExprTree, number, value_of, negated, operated}
use Rattle.ps_world.specs.declared.schemas.Term.{Term}
use Rattle.ps_world.specs.declared.schemas.Term.TheVariants.{Var, Const}
use Rattle.ps_world.specs.declared.schemas.Lifted.{Lifted}
use Rattle.ps_world.specs.declared.expressions.Expr.{Expr}
use Rattle.ps_world.specs.declared.expressions.Expr.TheVariants.{Num, Fun, Neg, Bin}
use Rattle.ps_world.specs.declared.actions.Effect.{Effect}
use Rattle.ps_world.specs.declared.actions.Effect.TheVariants.{Add, Delete, Number}
use Rattle.ps_action.specs.Effects.{flat, plainly}
use Rattle.ps_action.specs.Grounding.{put_effect, put_expr, put_lifted, put_term, put_tree}
use Rattle.ps_action.specs.Laws.{PlainEffectsStandForThemselves}

-- ---- no names put in

pub no_term : (t : Term) → put_term [] t ≡ t
no_term (Var i) = let same : i - 0 ≡ i = omega arith in ap Var same
no_term (Const n) = refl

no_terms : (ts : List Term) → map (put_term []) ts ≡ ts
no_terms [] = refl
no_terms (t ∷ ts) = λ i. no_term t i ∷ no_terms ts i

pub no_lifted : (l : Lifted) → put_lifted [] l ≡ l
no_lifted l = λ i. record { head = l.head; terms = no_terms l.terms i }

pub no_tree : (x : ExprTree) → put_tree [] x ≡ x
no_tree (number n) = refl
no_tree (value_of l) = ap value_of (no_lifted l)
no_tree (negated x) = ap negated (no_tree x)
no_tree (operated op x y) = λ i. operated op (no_tree x i) (no_tree y i)

pub no_expr : (x : Expr) → put_expr [] x ≡ x
no_expr (Num n) = refl
no_expr (Fun l) = ap Fun (no_lifted l)
no_expr (Neg x) = ap Neg (no_tree x)
no_expr (Bin op x y) = λ i. Bin op (no_tree x i) (no_tree y i)

pub no_effect : (e : Effect) → put_effect [] e ≡ e
no_effect (Add l) = ap Add (no_lifted l)
no_effect (Delete l) = ap Delete (no_lifted l)
no_effect (Number how l x) = λ i. Number how (no_lifted l i) (no_expr x i)

pub no_effects : (es : List Effect) → map (put_effect []) es ≡ es
no_effects [] = refl
no_effects (e ∷ es) = λ i. no_effect e i ∷ no_effects es i

-- ---- the list

pub plain_effects_stand : PlainEffectsStandForThemselves
plain_effects_stand d k [] = refl
plain_effects_stand d k (e ∷ es) = λ i. no_effect e i ∷ plain_effects_stand d k es i
