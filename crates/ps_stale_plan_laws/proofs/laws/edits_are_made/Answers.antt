use Rattle.ps_stale_plan_laws.proofs.Accepted.{edits_are_made}
use Rattle.ps_stale_plan_laws.proofs.laws.edits_are_made.Goals as goal

pub returns : goal.returns
returns c = edits_are_made
