use Rattle.ps_entry_laws.proofs.ReadJournals.{printed_journals_are_read}
use Rattle.ps_entry_laws.proofs.laws.printed_journals_are_read.Goals as goal

pub returns : goal.returns
returns c = printed_journals_are_read
