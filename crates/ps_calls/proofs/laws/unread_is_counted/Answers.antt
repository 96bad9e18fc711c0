use Rattle.ps_calls.proofs.Endings.{unread_is_counted}
use Rattle.ps_calls.proofs.laws.unread_is_counted.Goals as goal

pub returns : goal.returns
returns c = unread_is_counted
