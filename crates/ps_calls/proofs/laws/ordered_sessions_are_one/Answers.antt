use Rattle.ps_calls.proofs.OneSession.{sessions_are_one}
use Rattle.ps_calls.proofs.laws.ordered_sessions_are_one.Goals as goal

pub returns : goal.returns
returns c = sessions_are_one c.one_journal.ensures
