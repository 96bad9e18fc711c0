use Rattle.std.proofs.Common.{◌≤◌, ◌+◌, ◌*◌, length, drop}
use Rattle.ps_text.specs.ScriptLines.{script_lines}
use Rattle.ps_text.specs.Words.{pieces}
use Rattle.ps_inputs.specs.Reading.{most_lines}
use Rattle.ps_inputs.proofs.Flattening.{Follows}
use Rattle.ps_inputs.proofs.reading.flatten.+flatten.Given as goal

abbrev pub decreases-open : goal.decreases-open
decreases-open g l = 3 * l.levels

abbrev pub decreases-take : goal.decreases-take
decreases-take g l = 3 * l.levels + 1

abbrev pub decreases-walk : goal.decreases-walk
decreases-walk g l = 3 * l.levels + 2

-- what the lines from here come to, the whole text comes to
abbrev pub invariant-walk-loop-span : goal.invariant-walk-loop-span
invariant-walk-loop-span g l = record {
  few : length l.script.lines.items ≤ most_lines;
  follows : Follows l.levels (script_lines l.text) (pieces l.text (drop l.span-index l.span-items)) (g.F.Files.shown l.fn.files) (g.F.Files.shown l.files) l.fn.script l.script;
}
