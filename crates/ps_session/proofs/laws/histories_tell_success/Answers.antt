use Rattle.ps_session.proofs.Success.{histories_tell_success}
use Rattle.ps_session.proofs.laws.histories_tell_success.Goals as goal

pub returns : goal.returns
returns c = histories_tell_success
