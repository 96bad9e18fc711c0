use Rattle.ps_pddl.proofs.OneReading.{readings_are_one}
use Rattle.ps_pddl.proofs.laws.readings_are_one.Goals as goal

pub returns : goal.returns
returns c = readings_are_one
