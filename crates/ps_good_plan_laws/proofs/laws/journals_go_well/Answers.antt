use Rattle.ps_good_plan_laws.proofs.Walking.{journals_go_well}
use Rattle.ps_good_plan_laws.proofs.laws.journals_go_well.Goals as goal

pub returns : goal.returns
returns c = journals_go_well
