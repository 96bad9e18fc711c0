use Rattle.ps_rules.proofs.Longest.{good_length_is_longest}
use Rattle.ps_rules.proofs.laws.good_length_is_longest.Goals as goal

pub returns : goal.returns
returns c = good_length_is_longest
