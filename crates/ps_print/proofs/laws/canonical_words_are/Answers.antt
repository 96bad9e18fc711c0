use Rattle.ps_print.proofs.CanonicalWords.{canonical_words_are}
use Rattle.ps_print.proofs.laws.canonical_words_are.Goals as goal

pub returns : goal.returns
returns c = canonical_words_are
