use Rattle.ps_plan.proofs.PrintedPlans.{printed_plans_are_read}
use Rattle.ps_plan.proofs.laws.printed_plans_are_read.Goals as goal

pub returns : goal.returns
returns c = printed_plans_are_read
