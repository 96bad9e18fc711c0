use Rattle.ps_progress_laws.proofs.GoingOn.{somebody_goes_on}
use Rattle.ps_progress_laws.proofs.laws.somebody_goes_on.Goals as goal

pub returns : goal.returns
returns c = somebody_goes_on
