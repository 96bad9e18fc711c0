use Rattle.std.proofs.Common.{◌≡◌, ◌+◌, ◌-◌, ◌≤◌, drop, length}
use Rattle.std.specs.List.{position_or_len}
use Rattle.ps_text.proofs.Pieces.{is_lf}
use Rattle.ps_text.proofs.spans.near_line_end.Given as goal

abbrev pub decreases-loop-at : goal.decreases-loop-at
decreases-loop-at l = length l.bytes - l.at

-- the LF is where it is from the first place on
abbrev pub invariant-loop-at : goal.invariant-loop-at
invariant-loop-at l =
    record {
      within : l.at ≤ length l.bytes;
      same : l.at + position_or_len is_lf (drop l.at l.bytes) ≡ l.fn.from + position_or_len is_lf (drop l.fn.from l.bytes);
    }
