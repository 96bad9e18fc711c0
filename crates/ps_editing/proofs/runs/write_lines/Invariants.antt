use Rattle.ps_editing.specs.Lines.{worded}
use Rattle.ps_editing.proofs.Stages.{IsWritten}
use Rattle.ps_editing.proofs.runs.write_lines.Given as goal

abbrev pub invariant-loop-i : goal.invariant-loop-i
invariant-loop-i g l = IsWritten l.expert l.names (worded l.lines l.words) l.i l.undo l.refused (g.O.Sink.shown l.fn.out) (g.O.Sink.shown l.out)
