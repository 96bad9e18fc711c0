use Rattle.ps_rules.proofs.InOrder.{sessions_are_orderly}
use Rattle.ps_rules.proofs.laws.sessions_are_orderly.Goals as goal

pub returns : goal.returns
returns c = sessions_are_orderly
