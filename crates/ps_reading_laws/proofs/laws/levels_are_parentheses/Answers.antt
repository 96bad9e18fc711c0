use Rattle.ps_reading_laws.proofs.Levels.{levels_are_parentheses}
use Rattle.ps_reading_laws.proofs.laws.levels_are_parentheses.Goals as goal

pub returns : goal.returns
returns c = levels_are_parentheses
