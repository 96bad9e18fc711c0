use Rattle.std.proofs.Common.{◌≡◌, ◌+◌, drop, if◌then◌else◌}
use Rattle.ps_entries.specs.FirstLines.{lines_end}
use Rattle.ps_entries.proofs.heads.two_lines_end.Given as goal

-- the two lines end where those end that are left
abbrev pub invariant-loop-i : goal.invariant-loop-i
invariant-loop-i l = record {
  end : lines_end 2 l.bytes ≡ l.i + lines_end (if l.is_second then 1 else 2) (drop l.i l.bytes);
}
