use Rattle.ps_rules.proofs.Between.{lines_force_nothing}
use Rattle.ps_rules.proofs.laws.lines_force_nothing.Goals as goal

pub returns : goal.returns
returns c = lines_force_nothing
