use Rattle.ps_reading_laws.proofs.Levels.{depths_are_parentheses}
use Rattle.ps_reading_laws.proofs.laws.depths_are_parentheses.Goals as goal

pub returns : goal.returns
returns c = depths_are_parentheses
