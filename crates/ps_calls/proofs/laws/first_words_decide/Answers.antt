use Rattle.ps_calls.proofs.Endings.{first_words_decide}
use Rattle.ps_calls.proofs.laws.first_words_decide.Goals as goal

pub returns : goal.returns
returns c = first_words_decide
