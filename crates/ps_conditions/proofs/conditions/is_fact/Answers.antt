use Rattle.std.proofs.Common.{arith, sym}
use Rattle.ps_lists.specs.NestedViews.{nested}
use Rattle.ps_conditions.proofs.ConditionForms.{a_fact}
use Rattle.ps_conditions.proofs.conditions.is_fact.Goals as goal

pub returns-in_default : goal.returns-in_default
returns-in_default g c h =
    a_fact _ (g.S.Scope.scopes c.args._scope.now) c.args.params.now (nested c.args.tree.now) c.items-inside.result.now (omega arith) c.items-inside.ensures (rw (sym c.items-inside.ensures, sym c.head.ensures, sym c.states_fact.ensures) h)
