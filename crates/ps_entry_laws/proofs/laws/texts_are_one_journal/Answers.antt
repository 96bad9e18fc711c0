use Rattle.ps_entry_laws.proofs.OneJournal.{texts_are_one_journal}
use Rattle.ps_entry_laws.proofs.laws.texts_are_one_journal.Goals as goal

pub returns : goal.returns
returns c = texts_are_one_journal
