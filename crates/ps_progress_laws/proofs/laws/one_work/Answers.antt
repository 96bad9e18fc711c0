use Rattle.ps_progress_laws.proofs.OneWork.{one_work}
use Rattle.ps_progress_laws.proofs.laws.one_work.Goals as goal

pub returns : goal.returns
returns c = one_work
