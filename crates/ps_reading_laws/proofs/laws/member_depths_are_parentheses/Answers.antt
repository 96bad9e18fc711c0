use Rattle.ps_reading_laws.proofs.LineDepths.{member_depths_are_parentheses}
use Rattle.ps_reading_laws.proofs.laws.member_depths_are_parentheses.Goals as goal

pub returns : goal.returns
returns c = member_depths_are_parentheses
