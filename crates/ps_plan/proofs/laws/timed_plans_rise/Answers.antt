use Rattle.ps_plan.proofs.Rising.{timed_plans_rise}
use Rattle.ps_plan.proofs.laws.timed_plans_rise.Goals as goal

pub returns : goal.returns
returns c = timed_plans_rise
