use Rattle.ps_pddl.proofs.SoundActions.{domains_are_well_formed}
use Rattle.ps_pddl.proofs.laws.domains_are_well_formed.Goals as goal

pub returns : goal.returns
returns c = domains_are_well_formed
