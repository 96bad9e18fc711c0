use Rattle.ps_solve_laws.proofs.NoneLaw.{no_plan_is_none}
use Rattle.ps_solve_laws.proofs.laws.no_plan_is_none.Goals as goal

pub returns : goal.returns
returns c = no_plan_is_none
