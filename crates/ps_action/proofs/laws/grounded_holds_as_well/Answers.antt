use Rattle.ps_action.proofs.Grounded as grounded
use Rattle.ps_action.proofs.laws.grounded_holds_as_well.Goals as goal

pub returns : goal.returns
returns c = grounded.grounded_holds_as_well
