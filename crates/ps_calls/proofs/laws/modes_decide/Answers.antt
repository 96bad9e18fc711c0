use Rattle.ps_calls.proofs.Endings.{modes_decide}
use Rattle.ps_calls.proofs.laws.modes_decide.Goals as goal

pub returns : goal.returns
returns c = modes_decide
