use Rattle.ps_grammar.proofs.ToldFaults.{faults_are_told}
use Rattle.ps_grammar.proofs.laws.faults_are_told.Goals as goal

pub returns : goal.returns
returns c = faults_are_told
