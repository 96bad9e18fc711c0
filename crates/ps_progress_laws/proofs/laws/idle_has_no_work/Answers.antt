use Rattle.ps_progress_laws.proofs.OneWork.{idle_has_no_work}
use Rattle.ps_progress_laws.proofs.laws.idle_has_no_work.Goals as goal

pub returns : goal.returns
returns c = idle_has_no_work
