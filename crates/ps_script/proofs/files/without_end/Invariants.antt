use Rattle.std.proofs.Common.{◌≡◌, ◌+◌, ◌-◌, ◌≤◌, length, take}
use Rattle.std.specs.List.{suffix_len}
use Rattle.ps_text.specs.Words.{is_blank}
use Rattle.ps_script.proofs.files.without_end.Given as goal

abbrev pub decreases-loop-to : goal.decreases-loop-to
decreases-loop-to l = l.to

-- what is left has the blanks at its end that the text has before those that were passed
abbrev pub invariant-loop-to : goal.invariant-loop-to
invariant-loop-to l = record {
  within : l.to ≤ length l.bytes;
  passed : suffix_len is_blank l.bytes ≡ (length l.bytes - l.to) + suffix_len is_blank (take l.to l.bytes);
}
