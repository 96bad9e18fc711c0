use Rattle.ps_lists.proofs.Grammatical.{grammatical_judged}
use Rattle.ps_lists.proofs.laws.grammatical_texts_are_judged.Goals as goal

pub returns : goal.returns
returns c = grammatical_judged
