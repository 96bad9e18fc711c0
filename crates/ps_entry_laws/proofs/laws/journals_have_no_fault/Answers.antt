use Rattle.ps_entry_laws.proofs.OneFault.{journals_have_no_fault}
use Rattle.ps_entry_laws.proofs.laws.journals_have_no_fault.Goals as goal

pub returns : goal.returns
returns c = journals_have_no_fault
