use Rattle.ps_reading_laws.proofs.DomainTexts.{domains_are_read_back}
use Rattle.ps_reading_laws.proofs.laws.domains_are_read_back.Goals as goal

pub returns : goal.returns
returns c = domains_are_read_back
