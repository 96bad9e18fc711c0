use Rattle.ps_calls.proofs.Endings.{statuses_are_few}
use Rattle.ps_calls.proofs.laws.statuses_are_few.Goals as goal

pub returns : goal.returns
returns c = statuses_are_few
