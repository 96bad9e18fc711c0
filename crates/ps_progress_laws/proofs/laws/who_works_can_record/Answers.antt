use Rattle.ps_progress_laws.proofs.Recording.{who_works_can_record}
use Rattle.ps_progress_laws.proofs.laws.who_works_can_record.Goals as goal

pub returns : goal.returns
returns c = who_works_can_record
