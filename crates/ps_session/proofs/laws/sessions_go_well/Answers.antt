use Rattle.ps_good_plan_laws.proofs.Ordering.{journals_go_in_order}
use Rattle.ps_good_plan_laws.proofs.Walking.{journals_go_well}
use Rattle.ps_session.proofs.laws.sessions_go_well.Goals as goal

pub returns : goal.returns
returns c how i es is = (journals_go_well i es is.history, journals_go_in_order i es is.history)
