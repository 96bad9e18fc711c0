use Rattle.std.proofs.Common.{sym, ◌∙◌}
use Rattle.ps_actors.proofs.Skipping.{not-ready}
use Rattle.ps_actors.proofs.acts.start_of.Goals as goal

pub returns-else-is_ready-clause-first : goal.returns-else-is_ready-clause-first
returns-else-is_ready-clause-first c = λ i es o.
    not-ready i es c.args.act (sym (c.is_ready.ensures i es o.kept) ∙ c.if-is_ready.false)
