use Rattle.ps_history_laws.proofs.ReadDomains.{domains_are_sayable}
use Rattle.ps_history_laws.proofs.laws.domains_are_sayable.Goals as goal

pub returns : goal.returns
returns c = domains_are_sayable
