use Rattle.ps_input_laws.proofs.InputReadings.{every_session_is_read}
use Rattle.ps_input_laws.proofs.laws.every_session_is_read.Goals as goal

pub returns : goal.returns
returns c = every_session_is_read
