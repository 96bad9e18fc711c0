use Rattle.ps_script_laws.proofs.ReadBack.{queries_are_read_back}
use Rattle.ps_script_laws.proofs.laws.queries_are_read_back.Goals as goal

pub returns : goal.returns
returns c = queries_are_read_back
