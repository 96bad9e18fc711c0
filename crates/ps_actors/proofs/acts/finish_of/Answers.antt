use Rattle.std.proofs.Common.{sym, ◌∙◌}
use Rattle.ps_actors.proofs.Skipping.{not-active}
use Rattle.ps_actors.proofs.acts.finish_of.Goals as goal

pub returns-else-is_active-clause-first : goal.returns-else-is_active-clause-first
returns-else-is_active-clause-first c = λ i es o.
    not-active i es c.args.act (sym (c.is_active.ensures es o.kept.told.acts) ∙ c.if-is_active.false)
