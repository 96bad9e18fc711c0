use Rattle.ps_pddl.proofs.SoundReadings.{readings_are_well_formed}
use Rattle.ps_pddl.proofs.laws.readings_are_well_formed.Goals as goal

pub returns : goal.returns
returns c = readings_are_well_formed
