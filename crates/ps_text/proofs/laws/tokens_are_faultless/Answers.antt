use Rattle.ps_text.proofs.OneLexing.{tokens_are_faultless}
use Rattle.ps_text.proofs.laws.tokens_are_faultless.Goals as goal

pub returns : goal.returns
returns c = tokens_are_faultless
