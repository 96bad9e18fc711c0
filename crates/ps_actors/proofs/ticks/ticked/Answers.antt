use Rattle.std.proofs.Common.{sym, ◌∙◌}
use Rattle.ps_rules.specs.Choices.{rejects}
use Rattle.ps_actors.specs.Ticks.{confirms_on}
use Rattle.ps_rules.specs.Legal.{is_legal}
use Rattle.ps_actors.proofs.First.{either-none, either-some}
use Rattle.ps_actors.proofs.ticks.ticked.Goals as goal

pub returns-in-Some-clause-first : goal.returns-in-Some-clause-first
returns-in-Some-clause-first c = λ es o.
    either-some (is_legal c.args.input.now es) (rejects es) (confirms_on c.args.input.now es) c.in-Some.event (sym c.in-Some.is ∙ c.first_reject.ensures.first c.args.input.now es o)

pub returns-in-None-clause-first : goal.returns-in-None-clause-first
returns-in-None-clause-first c = λ es o.
    either-none (is_legal c.args.input.now es) (rejects es) (confirms_on c.args.input.now es) c.from_confirms.result (sym c.in-None.is ∙ c.first_reject.ensures.first c.args.input.now es o) (c.from_confirms.ensures.first es o)
