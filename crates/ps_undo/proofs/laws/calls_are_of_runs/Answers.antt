use Rattle.ps_undo.proofs.CallsOfRuns.{calls_are_of_runs}
use Rattle.ps_undo.proofs.laws.calls_are_of_runs.Goals as goal

pub returns : goal.returns
returns c = calls_are_of_runs
