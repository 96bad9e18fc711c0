use Rattle.ps_editing.proofs.RunLines.{runs_are_of_lines}
use Rattle.ps_editing.proofs.laws.runs_are_of_lines.Goals as goal

pub returns : goal.returns
returns c = runs_are_of_lines
