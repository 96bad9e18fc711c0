use Rattle.ps_members.proofs.OneMember.{texts_are_one_member}
use Rattle.ps_members.proofs.laws.texts_are_one_member.Goals as goal

pub returns : goal.returns
returns c = texts_are_one_member
