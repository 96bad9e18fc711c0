use Rattle.ps_reports.proofs.Numbered.{numbered_stand_once}
use Rattle.ps_reports.proofs.laws.numbered_stand_once.Goals as goal

pub returns : goal.returns
returns c = numbered_stand_once
