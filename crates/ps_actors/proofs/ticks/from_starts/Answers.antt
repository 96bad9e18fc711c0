use Rattle.std.proofs.Common.{ap, sym, ◌∙◌}
use Rattle.ps_rules.specs.Choices.{overs, starts}
use Rattle.ps_actors.specs.Turns.{first_legal}
use Rattle.ps_actors.proofs.Ticking.{starts-are}
use Rattle.ps_rules.specs.Legal.{is_legal}
use Rattle.ps_actors.proofs.First.{either-none, either-some}
use Rattle.ps_actors.proofs.ticks.from_starts.Goals as goal

pub returns-in-Some-clause-first : goal.returns-in-Some-clause-first
returns-in-Some-clause-first c = λ es o.
    either-some (is_legal c.args.input.now es) (starts es) (overs c.args.input.now es) c.in-Some.event (sym c.in-Some.is ∙ c.first_on_acts.ensures.first es o ∙ ap (first_legal c.args.input.now es) (starts-are es))

pub returns-in-None-clause-first : goal.returns-in-None-clause-first
returns-in-None-clause-first c = λ es o.
    either-none (is_legal c.args.input.now es) (starts es) (overs c.args.input.now es) c.first_over.result (sym c.in-None.is ∙ c.first_on_acts.ensures.first es o ∙ ap (first_legal c.args.input.now es) (starts-are es)) (c.first_over.ensures.first es o)
