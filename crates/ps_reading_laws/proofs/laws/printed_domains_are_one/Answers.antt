use Rattle.ps_reading_laws.proofs.DomainTexts.{printed_domains_are_one}
use Rattle.ps_reading_laws.proofs.laws.printed_domains_are_one.Goals as goal

pub returns : goal.returns
returns c = printed_domains_are_one
