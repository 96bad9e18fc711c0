use Rattle.ps_reading_laws.proofs.LineReadings.{every_line_is_read}
use Rattle.ps_reading_laws.proofs.laws.every_line_is_read.Goals as goal

pub returns : goal.returns
returns c = every_line_is_read
