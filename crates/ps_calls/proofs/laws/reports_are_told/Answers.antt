use Rattle.ps_calls.proofs.Endings.{reports_are_told}
use Rattle.ps_calls.proofs.laws.reports_are_told.Goals as goal

pub returns : goal.returns
returns c = reports_are_told
