use Rattle.ps_inputs.proofs.OneScript.{scripts_are_read_as_one}
use Rattle.ps_inputs.proofs.laws.scripts_are_read_as_one.Goals as goal

pub returns : goal.returns
returns c = scripts_are_read_as_one
