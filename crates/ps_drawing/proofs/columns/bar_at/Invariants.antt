use Rattle.std.proofs.Common.{◌≡◌, drop}
use Rattle.ps_drawing.specs.Columns.{bar_at}
use Rattle.ps_drawing.proofs.columns.bar_at.Given as goal

-- none so far decides
abbrev pub invariant-loop-bar : goal.invariant-loop-bar
invariant-loop-bar l = bar_at l.span l.column l.bars l.other ≡ bar_at l.span l.column (drop l.bar-index l.bars) l.other
