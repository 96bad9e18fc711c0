use Rattle.ps_grammar.proofs.OneFault.{first_faults_are_real}
use Rattle.ps_grammar.proofs.laws.first_faults_are_real.Goals as goal

pub returns : goal.returns
returns c = first_faults_are_real
