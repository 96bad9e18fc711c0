use Rattle.ps_reading_laws.proofs.DomainTexts.{read_domains_are_writable}
use Rattle.ps_reading_laws.proofs.laws.read_domains_are_writable.Goals as goal

pub returns : goal.returns
returns c = read_domains_are_writable
