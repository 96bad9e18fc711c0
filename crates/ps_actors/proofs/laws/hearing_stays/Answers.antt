use Rattle.ps_actors.proofs.Hearing as hearing
use Rattle.ps_actors.proofs.laws.hearing_stays.Goals as goal

pub returns : goal.returns
returns c = hearing.hearing_stays
