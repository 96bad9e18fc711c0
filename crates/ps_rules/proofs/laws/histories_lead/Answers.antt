use Rattle.ps_rules.proofs.Prefixes.{histories_lead}
use Rattle.ps_rules.proofs.laws.histories_lead.Goals as goal

pub returns : goal.returns
returns c = histories_lead
