use Rattle.ps_eval.proofs.Reading.{truth_reads_what_is_named}
use Rattle.ps_eval.proofs.laws.truth_reads_what_is_named.Goals as goal

pub returns : goal.returns
returns c = truth_reads_what_is_named
