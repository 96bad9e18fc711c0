use Rattle.ps_pddl.proofs.WayBack.{canonical_texts_are_read}
use Rattle.ps_pddl.proofs.laws.canonical_texts_are_read.Goals as goal

pub returns : goal.returns
returns c = canonical_texts_are_read
