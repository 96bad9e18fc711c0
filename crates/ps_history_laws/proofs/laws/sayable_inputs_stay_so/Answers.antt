use Rattle.ps_history_laws.proofs.Kept.{sayable_inputs_stay_so}
use Rattle.ps_history_laws.proofs.laws.sayable_inputs_stay_so.Goals as goal

pub returns : goal.returns
returns c = sayable_inputs_stay_so
