use Rattle.ps_choice_laws.proofs.Members.{performers_leave_nothing}
use Rattle.ps_choice_laws.proofs.laws.performers_leave_nothing.Goals as goal

pub returns : goal.returns
returns c = performers_leave_nothing
