use Rattle.ps_calls.proofs.Endings.{work_is_done_in_silence}
use Rattle.ps_calls.proofs.laws.work_is_done_in_silence.Goals as goal

pub returns : goal.returns
returns c = work_is_done_in_silence
