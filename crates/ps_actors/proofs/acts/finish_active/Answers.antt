use Rattle.std.proofs.Common.{sym, ◌∙◌}
use Rattle.ps_actors.proofs.Skipping.{not-finished}
use Rattle.ps_actors.proofs.acts.finish_active.Goals as goal

pub returns-else-is_finished-clause-first : goal.returns-else-is_finished-clause-first
returns-else-is_finished-clause-first c = λ i es o.
    c.fail_for.ensures.first i es o
    ∙ not-finished i es c.args.act (sym (c.is_finished.ensures i es o.kept) ∙ c.if-is_finished.false)
