use Rattle.ps_stale_plan_laws.proofs.Counted.{asked_for_good}
use Rattle.ps_stale_plan_laws.proofs.laws.asked_for_good.Goals as goal

pub returns : goal.returns
returns c = asked_for_good
