use Rattle.ps_stale_plan_laws.proofs.Walking.{only_edits_count}
use Rattle.ps_stale_plan_laws.proofs.laws.only_edits_count.Goals as goal

pub returns : goal.returns
returns c = only_edits_count
