use Rattle.ps_script_laws.proofs.ReadBack.{edits_are_read_back}
use Rattle.ps_script_laws.proofs.laws.edits_are_read_back.Goals as goal

pub returns : goal.returns
returns c = edits_are_read_back
