use Rattle.std.proofs.Common.{◌≡◌, ◌++◌, drop}
use Rattle.ps_picture.specs.Rows.{bars_of}
use Rattle.ps_picture.proofs.rows.bars_of.Given as goal

-- the bars so far, and those of the entries left, are all
abbrev pub invariant-loop-i : goal.invariant-loop-i
invariant-loop-i l = l.bars.items ++ bars_of l.subject l.last (drop l.i l.entries) ≡ bars_of l.subject l.last l.entries
