use Rattle.std.proofs.Common.{sym}
use Rattle.ps_actors.proofs.Skipping.{not-wanted}
use Rattle.ps_actors.proofs.overs.wants_plan.Goals as goal

pub returns-then-any_active : goal.returns-then-any_active
returns-then-any_active c = λ es o.
    sym (not-wanted c.args.input.now es (c.any_active.ensures c.args.input.now es o.kept c.if-any_active.true))
