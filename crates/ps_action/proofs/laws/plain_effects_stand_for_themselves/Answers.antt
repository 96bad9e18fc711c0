use Rattle.ps_action.proofs.Plainly.{plain_effects_stand}
use Rattle.ps_action.proofs.laws.plain_effects_stand_for_themselves.Goals as goal

pub returns : goal.returns
returns c = plain_effects_stand
