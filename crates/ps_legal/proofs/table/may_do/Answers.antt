use Rattle.std.proofs.Common.{sym, ◌∙◌}
use Rattle.ps_state.proofs.Grounded.{may-one}
use Rattle.ps_legal.proofs.table.may_do.Goals as goal

pub returns-then-same-clause-may : goal.returns-then-same-clause-may
returns-then-same-clause-may c =
    λ h. may-one c.args.state.now.expert c.args.state.now.problem c.args.acts.now c.args.act.now (sym c.is_only_act-same.ensures ∙ c.if-same.true) (sym c.can_ground-can.ensures ∙ h)
