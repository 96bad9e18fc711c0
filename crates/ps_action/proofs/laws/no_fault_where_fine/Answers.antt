use Rattle.ps_action.proofs.Fine as fine
use Rattle.ps_action.proofs.laws.no_fault_where_fine.Goals as goal

pub returns : goal.returns
returns c = fine.no_fault_where_fine
