use Rattle.std.proofs.Common.{sym, ◌∙◌}
use Rattle.ps_legal.proofs.Answered.{fits-few, other-plan, same-plan}
use Rattle.ps_legal.proofs.plans.is_plan_like.Goals as goal

pub returns-then-not-is_as_long-clause-plan : goal.returns-then-not-is_as_long-clause-plan
returns-then-not-is_as_long-clause-plan c =
    other-plan c.args.expert.now c.args.problem.now c.args.budget c.args.acts.now c.args.answer.now c.requires (sym c.is_as_long.ensures ∙ c.if-not-is_as_long.true)

pub is_good-requires : goal.is_good-requires
is_good-requires c =
    fits-few c.args.expert.now c.args.problem.now c.args.budget c.args.acts.now c.args.answer.now c.requires (sym c.is_as_long.ensures ∙ c.if-not-is_as_long.false)

pub returns-clause-plan : goal.returns-clause-plan
returns-clause-plan c =
    c.in_ok-good.ensures.good
    ∙ same-plan c.args.expert.now c.args.problem.now c.args.budget c.args.acts.now c.args.answer.now c.requires (sym c.is_as_long.ensures ∙ c.if-not-is_as_long.false)
