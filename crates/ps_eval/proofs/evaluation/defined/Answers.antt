use Rattle.std.proofs.Common.{◌∙◌}
use Rattle.ps_action.specs.Effects.{fault_of_effects, flat, made, values_of_flat}
use Rattle.ps_eval.proofs.Faultless.{ok_unless}
use Rattle.ps_eval.proofs.evaluation.defined.Goals as goal

pub returns : goal.returns
returns c =
    let d = c.args.expert.now in
    let k = c.args.problem.now in
    let es = flat d k c.args.effects.now in
    c.is_faultless.ensures ∙ ok_unless (fault_of_effects d k c.args.effects.now) (made k es (values_of_flat k es))
