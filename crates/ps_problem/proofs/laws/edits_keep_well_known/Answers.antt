use Rattle.ps_problem.proofs.WellKnown.{edits_keep_well_known}
use Rattle.ps_problem.proofs.laws.edits_keep_well_known.Goals as goal

pub returns : goal.returns
returns c = edits_keep_well_known
