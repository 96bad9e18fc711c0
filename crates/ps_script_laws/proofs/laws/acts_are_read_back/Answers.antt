use Rattle.ps_script_laws.proofs.ReadBack.{acts_are_read_back}
use Rattle.ps_script_laws.proofs.laws.acts_are_read_back.Goals as goal

pub returns : goal.returns
returns c = acts_are_read_back
