use Rattle.std.proofs.Common.{sym, ◌∙◌}
use Rattle.ps_rules.specs.Choices.{beginnings, stops}
use Rattle.ps_rules.specs.Legal.{is_legal}
use Rattle.ps_actors.proofs.First.{either-none, either-some}
use Rattle.ps_actors.proofs.work.stop_or_begin_engaged.Goals as goal

pub returns-in-Some-clause-first : goal.returns-in-Some-clause-first
returns-in-Some-clause-first c = λ i es o.
    either-some (is_legal i es) (stops c.args.name es) (beginnings c.args.name es) c.in-Some.event (sym c.in-Some.is ∙ c.first_on_requests.ensures.first i es o)

pub returns-in-None-clause-first : goal.returns-in-None-clause-first
returns-in-None-clause-first c = λ i es o.
    either-none (is_legal i es) (stops c.args.name es) (beginnings c.args.name es) c.first_on_requests-in-None.result
    (sym c.in-None.is ∙ c.first_on_requests.ensures.first i es o) (c.first_on_requests-in-None.ensures.first i es o)
