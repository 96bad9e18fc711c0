use Rattle.ps_solve_laws.proofs.LevelLaw.{levels_go_on}
use Rattle.ps_solve_laws.proofs.laws.levels_go_on.Goals as goal

pub returns : goal.returns
returns c = levels_go_on
