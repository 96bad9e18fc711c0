use Rattle.std.proofs.Common.{sym, ◌∙◌}
use Rattle.ps_actors.proofs.Ticking.{over-none, over-some}
use Rattle.ps_actors.proofs.overs.over_idle.Goals as goal

pub returns-in-Some-clause-first : goal.returns-in-Some-clause-first
returns-in-Some-clause-first c = λ es o.
    c.chosen_if.ensures.event
    ∙ over-some c.args.input.now es c.in-Some.how c.is_settled.result o.live (sym (c.verdict.ensures es o.kept) ∙ c.in-Some.is) (c.is_settled.ensures es o.kept)

pub returns-in-None-clause-first : goal.returns-in-None-clause-first
returns-in-None-clause-first c = λ es o.
    over-none c.args.input.now es (sym (c.verdict.ensures es o.kept) ∙ c.in-None.is)
