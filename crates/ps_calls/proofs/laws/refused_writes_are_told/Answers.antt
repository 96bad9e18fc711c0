use Rattle.ps_calls.proofs.Endings.{refused_writes_are_told}
use Rattle.ps_calls.proofs.laws.refused_writes_are_told.Goals as goal

pub returns : goal.returns
returns c = refused_writes_are_told
