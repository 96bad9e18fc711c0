use Rattle.ps_history_laws.proofs.Printed.{printed_histories_are_one}
use Rattle.ps_history_laws.proofs.laws.printed_histories_are_one.Goals as goal

pub returns : goal.returns
returns c = printed_histories_are_one
