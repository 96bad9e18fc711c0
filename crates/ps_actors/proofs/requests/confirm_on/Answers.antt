use Rattle.std.proofs.Common.{sym, ◌∙◌}
use Rattle.ps_actors.proofs.Ticking.{confirm-none, confirm-some}
use Rattle.ps_actors.proofs.requests.confirm_on.Goals as goal

pub returns-in-Some-clause-first : goal.returns-in-Some-clause-first
returns-in-Some-clause-first c = λ i es o.
    c.chosen_if.ensures.event
    ∙ confirm-some i es c.args.r c.in-Some.by c.may_confirm.result o.live (sym (c.first_offer.ensures es o.kept.told.requests) ∙ c.in-Some.is)
    (c.may_confirm.ensures i es o.kept)

pub returns-in-None-clause-first : goal.returns-in-None-clause-first
returns-in-None-clause-first c = λ i es o.
    confirm-none i es c.args.r (sym (c.first_offer.ensures es o.kept.told.requests) ∙ c.in-None.is)
