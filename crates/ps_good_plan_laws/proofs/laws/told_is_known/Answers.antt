use Rattle.ps_good_plan_laws.proofs.Telling.{told_is_known}
use Rattle.ps_good_plan_laws.proofs.laws.told_is_known.Goals as goal

pub returns : goal.returns
returns c = told_is_known
