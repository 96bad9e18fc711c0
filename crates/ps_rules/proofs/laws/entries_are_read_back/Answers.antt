use Rattle.ps_rules.proofs.ReadBack.{AreEntriesIn-journal_text}
use Rattle.ps_rules.proofs.laws.entries_are_read_back.Goals as goal

pub returns : goal.returns
returns c = AreEntriesIn-journal_text
