use Rattle.std.proofs.Common.{◌≡◌, ◌≤◌, ◌+◌, suc, nat_eq, drop, length, take}
use Rattle.std.specs.List.{common_prefix_len}
use Rattle.ps_audit.specs.Findings.{line_ends}
use Rattle.ps_audit.proofs.differences.line_of_difference.Given as goal

abbrev pub invariant-loop-byte : goal.invariant-loop-byte
invariant-loop-byte l = record {
  few : l.line ≤ length l.yielded + 1;
  ended : l.line ≡ suc (line_ends (take (length l.yielded) l.text));
  same : common_prefix_len nat_eq l.text l.due ≡ length l.yielded + common_prefix_len nat_eq (drop (length l.yielded) l.text) (drop (length l.yielded) l.due);
}
