use Rattle.ps_solve_laws.proofs.Lengths.{reaches_as_many as law}
use Rattle.ps_solve_laws.proofs.laws.reaches_as_many.Goals as goal

pub returns : goal.returns
returns c = law
