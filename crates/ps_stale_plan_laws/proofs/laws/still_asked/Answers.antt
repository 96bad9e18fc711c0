use Rattle.ps_stale_plan_laws.proofs.Walking.{still_asked}
use Rattle.ps_stale_plan_laws.proofs.laws.still_asked.Goals as goal

pub returns : goal.returns
returns c = still_asked
