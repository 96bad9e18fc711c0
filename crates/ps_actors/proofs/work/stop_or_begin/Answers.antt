use Rattle.std.proofs.Common.{sym, ◌∙◌}
use Rattle.ps_actors.proofs.Older.{idle, nothing-idle}
use Rattle.ps_actors.proofs.work.stop_or_begin.Goals as goal

pub returns-then-is_engaged-clause-first : goal.returns-then-is_engaged-clause-first
returns-then-is_engaged-clause-first c = c.stop_or_begin_engaged.ensures.first

pub returns-else-is_engaged-clause-first : goal.returns-else-is_engaged-clause-first
returns-else-is_engaged-clause-first c = λ i es o.
    nothing-idle i es c.args.name o.live (idle i es o.history c.args.name (sym (c.is_engaged.ensures es o.kept.told.performers) ∙ c.if-is_engaged.false))
