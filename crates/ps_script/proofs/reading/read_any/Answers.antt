use Rattle.std.proofs.Common.{◌∙◌, sym}
use Rattle.ps_script.specs.Lines.IsRead.{nothing}
use Rattle.ps_script.proofs.reading.read_any.Goals as goal

pub returns-then-is_nothing-clause-read : goal.returns-then-is_nothing-clause-read
returns-then-is_nothing-clause-read c = nothing (sym c.is_nothing.ensures ∙ c.if-is_nothing.true)
