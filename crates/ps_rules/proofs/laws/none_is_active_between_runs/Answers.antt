use Rattle.ps_rules.proofs.Between.{none_is_active_between_runs}
use Rattle.ps_rules.proofs.laws.none_is_active_between_runs.Goals as goal

pub returns : goal.returns
returns c = none_is_active_between_runs
