use Rattle.ps_reading_laws.proofs.Levels.{depths_are_told_there}
use Rattle.ps_reading_laws.proofs.laws.depths_are_told_there.Goals as goal

pub returns : goal.returns
returns c = depths_are_told_there
