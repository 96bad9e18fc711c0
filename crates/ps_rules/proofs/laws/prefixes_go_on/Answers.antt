use Rattle.ps_rules.proofs.Prefixes.{prefixes_go_on}
use Rattle.ps_rules.proofs.laws.prefixes_go_on.Goals as goal

pub returns : goal.returns
returns c = prefixes_go_on
