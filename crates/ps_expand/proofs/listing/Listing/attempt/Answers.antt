use Rattle.std.proofs.Common.{◌≡◌, false, true, List, Option, is_some, option_map, ap, sym, ◌∙◌}
use Rattle.std.specs.Result.{result_ok}
use Rattle.std.proofs.lemmas.Result.{IfOk-weaker}
use Rattle.ps_world.specs.declared.actions.Effect.{Effect}
use Rattle.ps_action.specs.Effects.{fault_of_flat, flat, values_of_flat}
use Rattle.ps_action.specs.Plans.{step_of}
use Rattle.ps_problem.specs.Patches.{changed}
use Rattle.ps_problem.specs.declared.change.Change.{Change}
use Rattle.ps_expand.specs.Attempts.{finished}
use Rattle.ps_expand.proofs.Attempts.{goes_on, start_faulty}
use Rattle.ps_expand.proofs.listing.Listing.attempt.Goals as goal

-- the effects that were unfolded are those for which the start stands
pub returns-then-is_some : goal.returns-then-is_some
returns-then-is_some c =
    let d = c.args.self.now.expert.now in
    let k = c.args.problem.now in
    let g = c.args.action.now in
    let starts = c.deref.ensures.value ∙ c.in_ok-starts.ensures ∙ ap (flat d k) c.as_slice.ensures in
    sym (start_faulty d k g (sym (c.is_some.ensures ∙ ap is_some c.fault_of_flat.ensures ∙ ap (λ (es : List Effect). is_some (fault_of_flat k es)) starts) ∙ c.if-is_some.true))

pub returns : goal.returns
returns c =
    let d = c.args.self.now.expert.now in
    let k = c.args.problem.now in
    let g = c.args.action.now in
    let first = c.deref.ensures.value ∙ c.in_ok-starts.ensures ∙ ap (flat d k) c.as_slice.ensures in
    let second = c.deref-2.ensures.value ∙ c.in_ok-starts.ensures ∙ ap (flat d k) c.as_slice.ensures in
    let third = c.deref-3.ensures.value ∙ c.in_ok-starts.ensures ∙ ap (flat d k) c.as_slice.ensures in
    let ready = c.deref-4.ensures.value ∙ c.in_ok-ready.ensures ∙ ap (values_of_flat k) second in
    let sound = sym (c.is_some.ensures ∙ ap is_some c.fault_of_flat.ensures ∙ ap (λ (es : List Effect). is_some (fault_of_flat k es)) first) ∙ c.if-is_some.false in
    let on = goes_on d k g (sym c.all_true.ensures ∙ c.if-not-all_true.false) sound c.requires in
    let Before : Option Change → Type 0 = λ o. o ≡ finished d k g c.deref-3.result.now c.deref-4.result.now in
    let After : Option Change → Type 0 = λ o. option_map (changed k) o ≡ result_ok (step_of d k 0 g) in
    IfOk-weaker c.finish.result Before After (λ o e. ap (option_map (changed k)) (e ∙ (λ i. finished d k g (third i) (ready i))) ∙ on) c.finish.ensures
