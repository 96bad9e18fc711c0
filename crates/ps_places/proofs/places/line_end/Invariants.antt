use Rattle.std.proofs.Common.{◌≤◌, ◌-◌, length}
use Rattle.ps_places.specs.Places.{IsOneLine}
use Rattle.ps_places.proofs.places.line_end.Given as goal

-- no LF stands between
abbrev pub invariant-loop-to : goal.invariant-loop-to
invariant-loop-to l = record {
  after : l.at ≤ l.to;
  within : l.to ≤ length l.text;
  one : IsOneLine l.text l.at l.to;
}

abbrev pub decreases-loop-to : goal.decreases-loop-to
decreases-loop-to l = length l.text - l.to
