use Rattle.ps_script.proofs.OneAnswer.{lines_are_read_as_one}
use Rattle.ps_script.proofs.laws.lines_are_read_as_one.Goals as goal

pub returns : goal.returns
returns c = lines_are_read_as_one
