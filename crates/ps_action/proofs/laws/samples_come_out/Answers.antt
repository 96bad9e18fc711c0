use Rattle.ps_action.proofs.Sampled as sampled
use Rattle.ps_action.proofs.laws.samples_come_out.Goals as goal

pub returns : goal.returns
returns c = sampled.samples_come_out
