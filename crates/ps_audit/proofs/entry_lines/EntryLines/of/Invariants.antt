use Rattle.std.proofs.Common.{◌≡◌, ◌≤◌, length, map, take, vec_capacity, vec_len}
use Rattle.ps_audit.specs.EntryLines.{span_numbered}
use Rattle.ps_audit.proofs.entry_lines.EntryLines.of.Given as goal

-- the spans are those of the first numbers, and there is room for the others
abbrev pub invariant-loop-n : goal.invariant-loop-n
invariant-loop-n l = record {
  spans : l.spans.items ≡ map (span_numbered l.all.items) (take l.n-index l.numbers);
  count : vec_len l.spans ≡ l.n-index;
  room : length l.numbers ≤ vec_capacity l.spans;
}
