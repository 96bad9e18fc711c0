use Rattle.ps_rules.proofs.Choosing.{turns_are_legal}
use Rattle.ps_rules.proofs.laws.turns_are_legal.Goals as goal

pub returns : goal.returns
returns c = turns_are_legal
