use Rattle.std.proofs.Common.{◌≡◌, Bool, true, false, not, Option, Some, None, is_none, is_some, [], refl, ap, sym, ◌∙◌}
use Rattle.ps_world.specs.ExprViews.{expr_tree}
use Rattle.ps_action.specs.Effects.{count_after, count_fault, fault_of_effect}
use Rattle.ps_action.specs.declared.refusals.EffectRefusal.{EffectRefusal}
use Rattle.ps_action.specs.Grounding.{put_effect, put_tree}
use Rattle.ps_action.proofs.Fine.{own_put}
use Rattle.ps_action.proofs.faultless.is_countable.Goals as goal

none_so : (o : Option EffectRefusal) (r : Bool) → is_some o ≡ not r → r ≡ is_none o
none_so None true e = refl
none_so None false e = absurd (cc)
none_so (Some f) true e = absurd (cc)
none_so (Some f) false e = refl

pub returns-in-Number : goal.returns-in-Number
returns-in-Number g c =
    let k = g.K.Known.known c.args.known.now in
    let env = c.args.env.now in
    let right = put_tree env (expr_tree c.in-Number.expr) in
    let count = c.count_in-count.ensures ∙ ap (λ t. count_after k c.in-Number.how t right) c.ground_in.ensures in
    none_so c.count_fault.result c.is_none.result c.is_none.ensures
    ∙ ap is_none (c.count_fault.ensures ∙ ap (count_fault 0) count ∙ sym (own_put k env c.in-Number.how c.in-Number.lifted c.in-Number.expr))
    ∙ ap (λ e. is_none (fault_of_effect k [] 0 (put_effect env e))) (sym c.in-Number.is)
