use Rattle.ps_picture.proofs.ForwardBars.{bars-go-forward}
use Rattle.ps_picture.proofs.laws.bars_go_forward.Goals as goal

pub returns : goal.returns
returns c = bars-go-forward
