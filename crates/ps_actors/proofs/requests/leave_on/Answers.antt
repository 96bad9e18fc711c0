use Rattle.std.proofs.Common.{sym, ◌∙◌}
use Rattle.ps_actors.proofs.Ticking.{leave-opened, leave-shut}
use Rattle.ps_actors.proofs.requests.leave_on.Goals as goal

pub returns-then-is_open-clause-first : goal.returns-then-is_open-clause-first
returns-then-is_open-clause-first c = λ i es o.
    c.leave_open.ensures.first i es o ∙ leave-opened i es c.args.r (sym (c.is_open.ensures es o.kept.told) ∙ c.if-is_open.true)

pub returns-else-is_open-clause-first : goal.returns-else-is_open-clause-first
returns-else-is_open-clause-first c = λ i es o.
    leave-shut i es c.args.r (sym (c.is_open.ensures es o.kept.told) ∙ c.if-is_open.false)
