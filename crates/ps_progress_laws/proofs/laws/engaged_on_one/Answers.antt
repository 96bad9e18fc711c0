use Rattle.ps_progress_laws.proofs.Engaged.{engaged_on_one}
use Rattle.ps_progress_laws.proofs.laws.engaged_on_one.Goals as goal

pub returns : goal.returns
returns c = engaged_on_one
