use Rattle.ps_tree.proofs.Roots.{unharmed_is_no_failure}
use Rattle.ps_tree.proofs.laws.unharmed_is_no_failure.Goals as goal

pub returns : goal.returns
returns c = unharmed_is_no_failure
