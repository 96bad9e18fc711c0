use Rattle.ps_drawing.proofs.SeenBars.{no-bar-vanishes}
use Rattle.ps_drawing.proofs.laws.no_bar_vanishes.Goals as goal

pub returns : goal.returns
returns c = no-bar-vanishes
