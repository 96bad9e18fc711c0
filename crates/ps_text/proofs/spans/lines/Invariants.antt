use Rattle.std.proofs.Common.{◌-◌, length}
use Rattle.ps_world.specs.Lines.{lines_of}
use Rattle.ps_text.proofs.Pieces.{Marked}
use Rattle.ps_text.proofs.spans.lines.Given as goal

abbrev pub invariant-loop-from : goal.invariant-loop-from
invariant-loop-from l = Marked lines_of l.bytes l.spans.items l.from

abbrev pub decreases-loop-from : goal.decreases-loop-from
decreases-loop-from l = length l.bytes - l.from
