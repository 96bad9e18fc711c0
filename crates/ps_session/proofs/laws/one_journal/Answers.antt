use Rattle.ps_session.proofs.Journals.{one_journal}
use Rattle.ps_session.proofs.laws.one_journal.Goals as goal

pub returns : goal.returns
returns c = one_journal
