use Rattle.std.proofs.Common.{◌≡◌, drop}
use Rattle.ps_drawing.specs.Columns.{mark_at}
use Rattle.ps_drawing.proofs.columns.mark_at.Given as goal

-- none so far decides
abbrev pub invariant-loop-mark : goal.invariant-loop-mark
invariant-loop-mark l = mark_at l.span l.column l.marks l.other
    ≡ mark_at l.span l.column (drop l.mark-index l.marks) l.other
