use Rattle.std.proofs.Common.{◌≡◌, Some, length, sym, ap, ◌∙◌}
use Rattle.ps_world.specs.Knowledge.{action_of}
use Rattle.ps_ground.specs.Fitting.{all_fit}
use Rattle.ps_ground.proofs.Fitted.{are_fit, are_unfit}
use Rattle.ps_ground.proofs.fits.is_fit.Goals as goal

pub returns-then-params-args-clause-fit : goal.returns-then-params-args-clause-fit
returns-then-params-args-clause-fit c =
    let d = c.args.expert.now in
    let k = c.args.problem.now in
    let a = c.in-Some.action.now in
    let is : action_of d c.args.act.now.action ≡ Some a = sym (rw c.in-Some.is at c.action.ensures) in
    let same : length a.params ≡ length c.args.act.now.args = sym (ap length c.as_slice-params.ensures) ∙ c.if-params-args.true ∙ ap length c.as_slice-args.ensures in
    λ yes. are_fit d k c.args.act.now a is same (sym (λ i. all_fit d k (c.as_slice-params.ensures i) (c.as_slice-args.ensures i)) ∙ sym c.all_fit.ensures ∙ yes)

pub returns-then-params-args-clause-unfit : goal.returns-then-params-args-clause-unfit
returns-then-params-args-clause-unfit c =
    let d = c.args.expert.now in
    let k = c.args.problem.now in
    let a = c.in-Some.action.now in
    let is : action_of d c.args.act.now.action ≡ Some a = sym (rw c.in-Some.is at c.action.ensures) in
    let same : length a.params ≡ length c.args.act.now.args = sym (ap length c.as_slice-params.ensures) ∙ c.if-params-args.true ∙ ap length c.as_slice-args.ensures in
    λ no. are_unfit d k c.args.act.now a is same (sym (λ i. all_fit d k (c.as_slice-params.ensures i) (c.as_slice-args.ensures i)) ∙ sym c.all_fit.ensures ∙ no)
