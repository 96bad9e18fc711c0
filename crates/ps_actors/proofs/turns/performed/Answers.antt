use Rattle.std.proofs.Common.{◌++◌, sym, ◌∙◌}
use Rattle.ps_rules.specs.Choices.{answers, beginnings, stops}
use Rattle.ps_rules.specs.Legal.{is_legal}
use Rattle.ps_actors.proofs.First.{either-none, either-some}
use Rattle.ps_actors.proofs.turns.performed.Goals as goal

pub returns-in-Some-clause-first : goal.returns-in-Some-clause-first
returns-in-Some-clause-first c = λ es o h.
    either-some (is_legal c.args.input.now es) (answers c.args.name es) (stops c.args.name es ++ beginnings c.args.name es) c.in-Some.event
    (sym c.in-Some.is ∙ c.first_answer.ensures.first es o h)

pub returns-in-None-clause-first : goal.returns-in-None-clause-first
returns-in-None-clause-first c = λ es o h.
    either-none (is_legal c.args.input.now es) (answers c.args.name es) (stops c.args.name es ++ beginnings c.args.name es) c.stop_or_begin.result
    (sym c.in-None.is ∙ c.first_answer.ensures.first es o h) (c.stop_or_begin.ensures.first c.args.input.now es o)
