use Rattle.ps_stale_plan_laws.proofs.Accepted.{others_leave}
use Rattle.ps_stale_plan_laws.proofs.laws.others_leave.Goals as goal

pub returns : goal.returns
returns c = others_leave
