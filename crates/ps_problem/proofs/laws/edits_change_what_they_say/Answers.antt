use Rattle.ps_problem.proofs.Changes.{edits_change}
use Rattle.ps_problem.proofs.laws.edits_change_what_they_say.Goals as goal

pub returns : goal.returns
returns c = edits_change
