use Rattle.ps_marks.proofs.Declared.{adds_are_declared}
use Rattle.ps_marks.proofs.laws.adds_are_declared.Goals as goal

pub returns : goal.returns
returns c = adds_are_declared
