use Rattle.std.proofs.Common.{sym, ◌∙◌}
use Rattle.ps_legal.proofs.Answered.{no-plan}
use Rattle.ps_legal.proofs.plans.is_plan.Goals as goal

pub returns-then-lacks_goal-clause-plan : goal.returns-then-lacks_goal-clause-plan
returns-then-lacks_goal-clause-plan g c = no-plan c.args.expert.now c.args.problem.now c.args.budget c.args.acts.now (sym c.lacks_goal.ensures ∙ c.if-lacks_goal.true)
