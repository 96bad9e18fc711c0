use Rattle.ps_reading_laws.proofs.LineDepths.{line_depths_are_parentheses}
use Rattle.ps_reading_laws.proofs.laws.line_depths_are_parentheses.Goals as goal

pub returns : goal.returns
returns c = line_depths_are_parentheses
