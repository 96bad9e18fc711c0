use Rattle.ps_problem.proofs.PutSuits.{puts_keep_well_known}
use Rattle.ps_problem.proofs.laws.puts_keep_well_known.Goals as goal

pub returns : goal.returns
returns c = puts_keep_well_known
