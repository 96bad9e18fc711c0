use Rattle.ps_good_plan_laws.proofs.Ordering.{journals_go_in_order}
use Rattle.ps_good_plan_laws.proofs.laws.journals_go_in_order.Goals as goal

pub returns : goal.returns
returns c = journals_go_in_order
