use Rattle.ps_inputs.proofs.Soundness.{members_are_sound}
use Rattle.ps_inputs.proofs.laws.members_are_sound.Goals as goal

pub returns : goal.returns
returns c = members_are_sound c.members_are_whole.ensures
