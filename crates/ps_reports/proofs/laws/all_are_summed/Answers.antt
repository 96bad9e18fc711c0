use Rattle.ps_reports.proofs.Summed.{all_are_summed}
use Rattle.ps_reports.proofs.laws.all_are_summed.Goals as goal

pub returns : goal.returns
returns c = all_are_summed
