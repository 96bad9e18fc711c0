use Rattle.std.proofs.Common.{ap, sym, ◌∙◌}
use Rattle.ps_rules.specs.Choices.{leaves}
use Rattle.ps_actors.specs.Ticks.{ends_on}
use Rattle.ps_actors.specs.Turns.{first_legal}
use Rattle.ps_actors.proofs.Ticking.{leaves-are}
use Rattle.ps_rules.specs.Legal.{is_legal}
use Rattle.ps_actors.proofs.First.{either-none, either-some}
use Rattle.ps_actors.proofs.ticks.from_leaves.Goals as goal

pub returns-in-Some-clause-first : goal.returns-in-Some-clause-first
returns-in-Some-clause-first c = λ es o.
    either-some (is_legal c.args.input.now es) (leaves es) (ends_on c.args.input.now es) c.in-Some.event (sym c.in-Some.is ∙ c.first_on_requests.ensures.first c.args.input.now es o ∙ ap (first_legal c.args.input.now es) (leaves-are es))

pub returns-in-None-clause-first : goal.returns-in-None-clause-first
returns-in-None-clause-first c = λ es o.
    either-none (is_legal c.args.input.now es) (leaves es) (ends_on c.args.input.now es) c.from_ends.result (sym c.in-None.is ∙ c.first_on_requests.ensures.first c.args.input.now es o ∙ ap (first_legal c.args.input.now es) (leaves-are es)) (c.from_ends.ensures.first es o)
