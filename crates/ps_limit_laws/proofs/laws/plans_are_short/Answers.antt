use Rattle.ps_limit_laws.proofs.ShortPlans.{plans_are_short}
use Rattle.ps_limit_laws.proofs.laws.plans_are_short.Goals as goal

pub returns : goal.returns
returns c = plans_are_short
