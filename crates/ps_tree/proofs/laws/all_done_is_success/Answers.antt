use Rattle.ps_tree.proofs.Roots.{all_done_is_success}
use Rattle.ps_tree.proofs.laws.all_done_is_success.Goals as goal

pub returns : goal.returns
returns c = all_done_is_success
