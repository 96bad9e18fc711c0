use Rattle.std.proofs.Common.{◌+◌, drop}
use Rattle.ps_text.specs.Names.{Keeps}
use Rattle.ps_text.specs.Words.{pieces}
use Rattle.ps_entries.proofs.JournalLines.{Follows}
use Rattle.ps_entries.proofs.journals.read_lines.Given as goal

-- what the lines that are left are, all lines are, with the entries so far before
abbrev pub invariant-loop-i : goal.invariant-loop-i
invariant-loop-i l = record {
  follows : Follows l.first l.fn.names (pieces l.bytes l.lines) (l.i + l.first) (pieces l.bytes (drop l.i l.lines)) l.entries l.names;
  kept : Keeps l.fn.names l.names;
}
