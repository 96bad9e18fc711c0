use Rattle.ps_pddl.proofs.OwnFaults.{meanings_have_own_faults}
use Rattle.ps_pddl.proofs.laws.meanings_have_own_faults.Goals as goal

pub returns : goal.returns
returns c = meanings_have_own_faults
