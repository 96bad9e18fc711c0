use Rattle.ps_limit_laws.proofs.SoundLines.{lines_are_sound}
use Rattle.ps_limit_laws.proofs.laws.lines_are_sound.Goals as goal

pub returns : goal.returns
returns c = lines_are_sound
