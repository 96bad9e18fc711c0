use Rattle.ps_entry_laws.proofs.ReadBack.{printed_entries_are_read}
use Rattle.ps_entry_laws.proofs.laws.printed_entries_are_read.Goals as goal

pub returns : goal.returns
returns c = printed_entries_are_read
