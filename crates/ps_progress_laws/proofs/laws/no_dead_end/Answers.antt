use Rattle.ps_progress_laws.proofs.DeadEnd.{no_dead_end}
use Rattle.ps_progress_laws.proofs.laws.no_dead_end.Goals as goal

pub returns : goal.returns
returns c = no_dead_end
