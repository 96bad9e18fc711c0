use Rattle.ps_solve_laws.proofs.Lengths.{tells_how_far as law}
use Rattle.ps_solve_laws.proofs.laws.tells_how_far.Goals as goal

pub returns : goal.returns
returns c = law
