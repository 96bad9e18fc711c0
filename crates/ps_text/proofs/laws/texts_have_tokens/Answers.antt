use Rattle.ps_text.proofs.TextTokens.{texts_have_tokens}
use Rattle.ps_text.proofs.laws.texts_have_tokens.Goals as goal

pub returns : goal.returns
returns c = texts_have_tokens
