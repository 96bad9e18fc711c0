use Rattle.ps_limit_laws.proofs.SoundMembers.{members_are_sound}
use Rattle.ps_limit_laws.proofs.laws.members_are_sound.Goals as goal

pub returns : goal.returns
returns c = members_are_sound
