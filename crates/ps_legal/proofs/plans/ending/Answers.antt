use Rattle.std.proofs.Common.{sym, ◌∙◌}
use Rattle.ps_legal.proofs.Answered.{ending-answered, ending-goal-less, ending-some}
use Rattle.ps_legal.proofs.plans.ending.Goals as goal

pub returns-then-is_some : goal.returns-then-is_some
returns-then-is_some g c = λ h. ending-some c.args.expert.now c.args.budget c.args.problem.now c.args.verdict (sym c.is_some.ensures ∙ c.if-is_some.true)

pub returns-then-lacks_goal : goal.returns-then-lacks_goal
returns-then-lacks_goal g c =
    λ h. ending-goal-less c.args.expert.now c.args.budget c.args.problem.now c.args.verdict (sym c.is_some.ensures ∙ c.if-is_some.false) (sym c.lacks_goal.ensures ∙ c.if-lacks_goal.true) h

pub returns : goal.returns
returns g c =
    λ h. c.given_up.ensures
    ∙ ending-answered c.args.expert.now c.args.budget c.args.problem.now c.args.verdict c.in_ok-answer.answer (sym c.is_some.ensures ∙ c.if-is_some.false) c.in_ok-answer.ensures.fits
