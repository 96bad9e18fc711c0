use Rattle.std.proofs.Common.{◌≡◌, drop}
use Rattle.ps_drawing.specs.Columns.{end_at}
use Rattle.ps_drawing.proofs.columns.end_at.Given as goal

-- none so far decides
abbrev pub invariant-loop-bar : goal.invariant-loop-bar
invariant-loop-bar l = end_at l.span l.column l.bars l.other ≡ end_at l.span l.column (drop l.bar-index l.bars) l.other
