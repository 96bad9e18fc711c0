use Rattle.ps_actors.proofs.Skipping.{not-over}
use Rattle.ps_actors.proofs.overs.first_over.Goals as goal

pub returns-then-any_active-clause-first : goal.returns-then-any_active-clause-first
returns-then-any_active-clause-first c = λ es o.
    not-over c.args.input.now es (c.any_active.ensures c.args.input.now es o.kept c.if-any_active.true)
