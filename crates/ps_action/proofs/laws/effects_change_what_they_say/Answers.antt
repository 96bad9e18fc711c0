use Rattle.ps_action.proofs.Made.{effects_change}
use Rattle.ps_action.proofs.laws.effects_change_what_they_say.Goals as goal

pub returns : goal.returns
returns c = effects_change
