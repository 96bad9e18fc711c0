use Rattle.ps_input_laws.proofs.OneFinding.{texts_are_found_to_be_one}
use Rattle.ps_input_laws.proofs.laws.texts_are_found_to_be_one.Goals as goal

pub returns : goal.returns
returns c = texts_are_found_to_be_one
