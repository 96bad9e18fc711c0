use Rattle.ps_input_laws.proofs.ReadHistories.{read_histories_are_read}
use Rattle.ps_input_laws.proofs.laws.read_histories_are_read.Goals as goal

pub returns : goal.returns
returns c = read_histories_are_read
