use Rattle.ps_rules.proofs.Notes.{histories_are_read_back}
use Rattle.ps_rules.proofs.laws.histories_are_read_back.Goals as goal

pub returns : goal.returns
returns c = histories_are_read_back
