use Rattle.ps_text.proofs.OneLexing.{faults_are_one}
use Rattle.ps_text.proofs.laws.faults_are_one.Goals as goal

pub returns : goal.returns
returns c = faults_are_one
