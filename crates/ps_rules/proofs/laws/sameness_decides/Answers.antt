use Rattle.ps_rules.proofs.SameThings.{sameness_decides}
use Rattle.ps_rules.proofs.laws.sameness_decides.Goals as goal

pub returns : goal.returns
returns c = sameness_decides
