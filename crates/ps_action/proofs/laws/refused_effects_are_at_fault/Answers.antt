use Rattle.ps_action.proofs.Made.{effects_are_at_fault}
use Rattle.ps_action.proofs.laws.refused_effects_are_at_fault.Goals as goal

pub returns : goal.returns
returns c = effects_are_at_fault
