use Rattle.std.proofs.Common.{sym, ◌∙◌}
use Rattle.ps_legal.proofs.Answered.{fits-unplanned, with-no-goal, with-some-goal}
use Rattle.ps_legal.proofs.plans.refusal_of_goal.Goals as goal

pub returns-then-lacks_goal : goal.returns-then-lacks_goal
returns-then-lacks_goal g c = with-no-goal c.args.problem.now _ (sym c.lacks_goal.ensures ∙ c.if-lacks_goal.true)

pub returns : goal.returns
returns g c =
    c.unplanned.ensures ∙ fits-unplanned c.args.expert.now c.args.problem.now c.args.budget c.in_ok-answer.answer c.in_ok-answer.ensures.fits
    ∙ with-some-goal c.args.problem.now _ (sym c.lacks_goal.ensures ∙ c.if-lacks_goal.false)
