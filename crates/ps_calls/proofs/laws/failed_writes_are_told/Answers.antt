use Rattle.ps_calls.proofs.Endings.{failed_writes_are_told}
use Rattle.ps_calls.proofs.laws.failed_writes_are_told.Goals as goal

pub returns : goal.returns
returns c = failed_writes_are_told
