use Rattle.std.proofs.Common.{arith}
use Rattle.ps_conditions.proofs.ConditionForms.{with_one}
use Rattle.ps_conditions.proofs.conditions.plain_condition.Goals as goal

pub returns-in-len1 : goal.returns-in-len1
returns-in-len1 g c =
    rw (with_one _ ((g.S.Scope.scopes c.args.scope.now).words c.args.params.now) c.args.word c.args.trees.now (omega arith)) c.stated-in-len1.ensures
