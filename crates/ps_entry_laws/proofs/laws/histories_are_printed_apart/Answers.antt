use Rattle.ps_entry_laws.proofs.OneJournal.{histories_are_printed_apart}
use Rattle.ps_entry_laws.proofs.laws.histories_are_printed_apart.Goals as goal

pub returns : goal.returns
returns c = histories_are_printed_apart
