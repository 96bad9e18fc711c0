use Rattle.std.proofs.Common.{refl}
use Rattle.std.specs.Fmt.{digits}
use Rattle.ps_rules.proofs.laws.replanned_is_right.Goals as goal

pub returns : goal.returns
unfolding digits
returns c = refl
