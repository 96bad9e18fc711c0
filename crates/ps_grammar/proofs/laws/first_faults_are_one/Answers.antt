use Rattle.ps_grammar.proofs.OneFault.{first_faults_are_one}
use Rattle.ps_grammar.proofs.laws.first_faults_are_one.Goals as goal

pub returns : goal.returns
returns c = first_faults_are_one
