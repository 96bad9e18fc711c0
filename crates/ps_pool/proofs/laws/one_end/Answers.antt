use Rattle.ps_pool.proofs.Ending.{one_end}
use Rattle.ps_pool.proofs.laws.one_end.Goals as goal

pub returns : goal.returns
returns c = one_end
