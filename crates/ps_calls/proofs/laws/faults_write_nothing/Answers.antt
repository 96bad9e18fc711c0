use Rattle.ps_calls.proofs.Endings.{faults_write_nothing}
use Rattle.ps_calls.proofs.laws.faults_write_nothing.Goals as goal

pub returns : goal.returns
returns c = faults_write_nothing
