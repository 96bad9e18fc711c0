use Rattle.ps_progress_laws.proofs.OneWork.{older_has_no_work}
use Rattle.ps_progress_laws.proofs.laws.older_has_no_work.Goals as goal

pub returns : goal.returns
returns c = older_has_no_work
