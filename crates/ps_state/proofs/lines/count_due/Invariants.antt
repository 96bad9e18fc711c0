use Rattle.std.proofs.Common.{◌≡◌, ◌++◌, take, drop}
use Rattle.ps_rules.specs.Lines.{due_lines}
use Rattle.ps_state.proofs.lines.count_due.Given as goal

abbrev pub invariant-loop-i : goal.invariant-loop-i
invariant-loop-i l = due_lines l.lines ≡ take l.i l.lines ++ due_lines (drop l.i l.lines)
