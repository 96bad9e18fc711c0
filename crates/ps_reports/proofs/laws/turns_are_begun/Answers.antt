use Rattle.ps_reports.proofs.Telling.{turns_are_begun}
use Rattle.ps_reports.proofs.laws.turns_are_begun.Goals as goal

pub returns : goal.returns
returns c = turns_are_begun
