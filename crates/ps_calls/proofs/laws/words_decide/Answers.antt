use Rattle.ps_calls.proofs.Endings.{words_decide}
use Rattle.ps_calls.proofs.laws.words_decide.Goals as goal

pub returns : goal.returns
returns c = words_decide
