use Rattle.ps_choice_laws.proofs.ByMembers.{members_alone_act}
use Rattle.ps_choice_laws.proofs.laws.members_alone_act.Goals as goal

pub returns : goal.returns
returns c = members_alone_act
