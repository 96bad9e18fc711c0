use Rattle.ps_input_laws.proofs.SayableInputs.{inputs_are_sayable}
use Rattle.ps_input_laws.proofs.laws.inputs_are_sayable.Goals as goal

pub returns : goal.returns
returns c = inputs_are_sayable
