use Rattle.ps_undo.proofs.Suited.{editors_stay_suited}
use Rattle.ps_undo.proofs.laws.editors_stay_suited.Goals as goal

pub returns : goal.returns
returns c = editors_stay_suited
