use Rattle.ps_members.proofs.WholeMembers.{members_are_whole}
use Rattle.ps_members.proofs.laws.members_are_whole.Goals as goal

pub returns : goal.returns
returns c = members_are_whole
