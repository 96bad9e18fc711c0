use Rattle.ps_reading_laws.proofs.DomainReadings.{every_text_is_read}
use Rattle.ps_reading_laws.proofs.laws.every_text_is_read.Goals as goal

pub returns : goal.returns
returns c = every_text_is_read
