use Rattle.ps_text.specs.Names.{Keeps}
use Rattle.ps_members.proofs.TextLines.{Follows}
use Rattle.ps_members.proofs.reading.read_lines.Given as goal

-- what the lines that are left are from here on, the text is
abbrev pub invariant-loop-i : goal.invariant-loop-i
invariant-loop-i l = record {
  follows : Follows l.expert l.fn.names l.bytes l.lines l.i l.at l.names;
  kept : Keeps l.fn.names l.names;
}
