use Rattle.std.proofs.Common.{◌-◌, ◌≤◌, length}
use Rattle.ps_text.specs.Tokens.{IsGap}
use Rattle.ps_text.proofs.word_spans.word_start.Given as goal

abbrev pub invariant-loop-from : goal.invariant-loop-from
invariant-loop-from l =
    record {
      later : l.fn.from ≤ l.from;
      within : l.from ≤ length l.bytes;
      gap : IsGap l.bytes l.fn.from l.from;
    }

abbrev pub decreases-loop-from : goal.decreases-loop-from
decreases-loop-from l = length l.bytes - l.from
