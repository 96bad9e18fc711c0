use Rattle.ps_text.proofs.OneLexing.{tokens_are_one}
use Rattle.ps_text.proofs.laws.tokens_are_one.Goals as goal

pub returns : goal.returns
returns c = tokens_are_one
