-- What is at fault with a numeric effect.
use Rattle.std.proofs.Common.{◌≡◌, ℕ, Bool, if◌then◌else◌, Some, List, ap, ◌∙◌}
use Rattle.std.specs.List.{list_any}
use Rattle.ps_world.specs.ExprViews.{expr_tree}
use Rattle.ps_world.specs.Knowledge.{ground}
use Rattle.ps_world.specs.declared.schemas.Lifted.{Lifted}
use Rattle.ps_world.specs.declared.expressions.Expr.{Expr}
use Rattle.ps_world.specs.declared.facts.Fact.{Fact}
use Rattle.ps_world.specs.declared.actions.NumOp.{NumOp}
use Rattle.ps_world.specs.declared.actions.Effect.{Effect}
use Rattle.ps_world.specs.declared.actions.Effect.TheVariants.{Number}
use Rattle.ps_world.specs.declared.known.Knowledge.{Knowledge}
use Rattle.ps_action.specs.declared.refusals.EffectRefusal.TheVariants.{Clash}
use Rattle.ps_action.specs.Effects.{count_after, count_fault, fault_of_effect, sets}

-- that the term has a value given before, or that its count is none
pub fault_of_number : (k : Knowledge) (before : List Effect) (at : ℕ) (how : NumOp) (l : Lifted) (x : Expr) (f : Fact) (b : Bool) → f ≡ ground l → b ≡ list_any (sets f) before → (if b then Some (Clash at) else count_fault at (count_after k how f (expr_tree x))) ≡ fault_of_effect k before at (Number how l x)
fault_of_number k before at how l x f b e s =
    ap (λ v. if v then Some (Clash at) else count_fault at (count_after k how f (expr_tree x))) s
    ∙ ap (λ h. if list_any (sets h) before then Some (Clash at) else count_fault at (count_after k how h (expr_tree x))) e
