use Rattle.ps_history_laws.proofs.ReadMembers.{members_are_sayable}
use Rattle.ps_history_laws.proofs.laws.members_are_sayable.Goals as goal

pub returns : goal.returns
returns c = members_are_sayable
