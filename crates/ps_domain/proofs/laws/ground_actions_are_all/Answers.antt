use Rattle.ps_domain.proofs.AllActions.{ground_actions_are_all}
use Rattle.ps_domain.proofs.laws.ground_actions_are_all.Goals as goal

pub returns : goal.returns
returns c = ground_actions_are_all
