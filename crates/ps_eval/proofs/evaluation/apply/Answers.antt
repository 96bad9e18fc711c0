use Rattle.std.proofs.Common.{sym, ◌∙◌}
use Rattle.ps_eval.proofs.Facts.{made-so}
use Rattle.ps_eval.proofs.evaluation.apply.Goals as goal

pub returns-in-Some : goal.returns-in-Some
returns-in-Some c =
    made-so c.args.expert.now c.args.effects.now c.from_ref.result.now c.args.problem.now c.apply_flat.result c.apply_flat.new.problem
    (c.in-Some.ensures c.args.expert.now c.args.problem.now ∙ sym c.from_ref.ensures.value) c.apply_flat.ensures
