use Rattle.ps_choice_laws.proofs.Members.{observers_leave_nothing}
use Rattle.ps_choice_laws.proofs.laws.observers_leave_nothing.Goals as goal

pub returns : goal.returns
returns c = observers_leave_nothing
