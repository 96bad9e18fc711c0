use Rattle.std.proofs.Common.{sym, ◌∙◌}
use Rattle.ps_actors.proofs.Ticking.{fail-none, fail-some}
use Rattle.ps_actors.proofs.requests.fail_on.Goals as goal

pub returns-in-Some-clause-first : goal.returns-in-Some-clause-first
returns-in-Some-clause-first c = λ i es o.
    c.chosen_if.ensures.event
    ∙ fail-some i es c.args.r c.in-Some.act c.may_fail.result o.live (sym (c.act_of.ensures es o.kept.told.requests) ∙ c.in-Some.is)
    (c.may_fail.ensures i es o.kept)

pub returns-in-None-clause-first : goal.returns-in-None-clause-first
returns-in-None-clause-first c = λ i es o.
    fail-none i es c.args.r (sym (c.act_of.ensures es o.kept.told.requests) ∙ c.in-None.is)
