use Rattle.ps_ledger.proofs.LegalEvents.{legal_events_speak_of_ledgers}
use Rattle.ps_ledger.proofs.laws.legal_events_speak_of_ledgers.Goals as goal

pub returns : goal.returns
returns c = legal_events_speak_of_ledgers
