use Rattle.ps_entry_laws.proofs.OneFault.{faults_are_one}
use Rattle.ps_entry_laws.proofs.laws.faults_are_one.Goals as goal

pub returns : goal.returns
returns c = faults_are_one
