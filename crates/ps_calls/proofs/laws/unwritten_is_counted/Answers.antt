use Rattle.ps_calls.proofs.Endings.{unwritten_is_counted}
use Rattle.ps_calls.proofs.laws.unwritten_is_counted.Goals as goal

pub returns : goal.returns
returns c = unwritten_is_counted
