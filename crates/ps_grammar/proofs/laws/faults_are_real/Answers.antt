use Rattle.ps_grammar.proofs.OneFault.{faults_are_real}
use Rattle.ps_grammar.proofs.laws.faults_are_real.Goals as goal

pub returns : goal.returns
returns c = faults_are_real
