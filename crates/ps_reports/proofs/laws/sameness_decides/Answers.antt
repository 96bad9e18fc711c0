use Rattle.ps_reports.proofs.SameUnits.{sameness_decides}
use Rattle.ps_reports.proofs.laws.sameness_decides.Goals as goal

pub returns : goal.returns
returns c = sameness_decides
