use Rattle.std.proofs.Common.{sym, ◌∙◌}
use Rattle.ps_actors.proofs.Older.{idle, no-work-idle}
use Rattle.ps_actors.proofs.work.work_of.Goals as goal

pub returns-then-is_engaged : goal.returns-then-is_engaged
returns-then-is_engaged c = c.work_engaged.ensures

pub returns-else-is_engaged : goal.returns-else-is_engaged
returns-else-is_engaged c = λ es o.
    no-work-idle c.args.input.now es c.args.name (idle c.args.input.now es o.history c.args.name (sym (c.is_engaged.ensures es o.kept.told.performers) ∙ c.if-is_engaged.false))
