use Rattle.ps_lists.proofs.Judged.{judged_grammatical}
use Rattle.ps_lists.proofs.laws.judged_texts_are_grammatical.Goals as goal

pub returns : goal.returns
returns c = judged_grammatical
