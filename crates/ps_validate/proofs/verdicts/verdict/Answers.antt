use Rattle.std.proofs.Common.{rules}
use Rattle.ps_validate.specs.Verdicts.{verdict}
use Rattle.ps_validate.proofs.verdicts.verdict.Goals as goal

pub returns-in-None-clause-verdict : goal.returns-in-None-clause-verdict
unfolding verdict
returns-in-None-clause-verdict c = search rules

pub returns-in-Some-clause-verdict : goal.returns-in-Some-clause-verdict
unfolding verdict
returns-in-Some-clause-verdict c = search rules
