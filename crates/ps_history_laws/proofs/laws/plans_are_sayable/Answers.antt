use Rattle.ps_history_laws.proofs.ReadDomains.{plans_are_sayable}
use Rattle.ps_history_laws.proofs.laws.plans_are_sayable.Goals as goal

pub returns : goal.returns
returns c = plans_are_sayable
