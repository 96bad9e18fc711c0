use Rattle.std.proofs.Common.{refl}
use Rattle.std.specs.Fmt.{digits}
use Rattle.ps_tree.proofs.laws.one_done_has_three_lines.Goals as goal

pub returns : goal.returns
unfolding digits
returns c = refl
