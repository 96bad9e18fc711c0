use Rattle.ps_lists.proofs.OneSpelling.{one_spelling}
use Rattle.ps_lists.proofs.laws.lists_are_told.Goals as goal

pub returns : goal.returns
returns c = one_spelling
