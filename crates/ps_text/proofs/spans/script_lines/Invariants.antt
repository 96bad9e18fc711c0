use Rattle.std.proofs.Common.{◌-◌, length}
use Rattle.ps_text.specs.ScriptLines.{script_lines}
use Rattle.ps_text.proofs.Pieces.{Marked}
use Rattle.ps_text.proofs.spans.script_lines.Given as goal

abbrev pub invariant-loop-from : goal.invariant-loop-from
invariant-loop-from l = Marked script_lines l.bytes l.spans.items l.from

abbrev pub decreases-loop-from : goal.decreases-loop-from
decreases-loop-from l = length l.bytes - l.from
