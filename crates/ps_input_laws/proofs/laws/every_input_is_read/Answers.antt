use Rattle.ps_input_laws.proofs.InputReadings.{every_input_is_read}
use Rattle.ps_input_laws.proofs.laws.every_input_is_read.Goals as goal

pub returns : goal.returns
returns c = every_input_is_read
