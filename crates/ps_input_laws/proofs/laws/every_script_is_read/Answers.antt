use Rattle.ps_input_laws.proofs.ScriptReadings.{every_script_is_read}
use Rattle.ps_input_laws.proofs.laws.every_script_is_read.Goals as goal

pub returns : goal.returns
returns c = every_script_is_read
