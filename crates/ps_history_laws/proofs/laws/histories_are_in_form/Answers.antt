use Rattle.ps_history_laws.proofs.Histories.{histories_are_in_form}
use Rattle.ps_history_laws.proofs.laws.histories_are_in_form.Goals as goal

pub returns : goal.returns
returns c = histories_are_in_form
