use Rattle.ps_history_laws.proofs.ReadLines.{lines_are_sayable}
use Rattle.ps_history_laws.proofs.laws.lines_are_sayable.Goals as goal

pub returns : goal.returns
returns c = lines_are_sayable
