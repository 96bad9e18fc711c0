use Rattle.ps_eval.proofs.Flats.{flat_reads_what_is_named}
use Rattle.ps_eval.proofs.laws.flat_reads_what_is_named.Goals as goal

pub returns : goal.returns
returns c = flat_reads_what_is_named
