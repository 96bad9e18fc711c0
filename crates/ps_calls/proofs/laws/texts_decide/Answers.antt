use Rattle.ps_calls.proofs.Endings.{texts_decide}
use Rattle.ps_calls.proofs.laws.texts_decide.Goals as goal

pub returns : goal.returns
returns c = texts_decide
