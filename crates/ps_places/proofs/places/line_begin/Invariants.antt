use Rattle.std.proofs.Common.{◌≤◌}
use Rattle.ps_places.specs.Places.{IsOneLine}
use Rattle.ps_places.proofs.places.line_begin.Given as goal

-- no LF stands between
abbrev pub invariant-loop-from : goal.invariant-loop-from
invariant-loop-from l = record {
  within : l.from ≤ l.at;
  one : IsOneLine l.text l.from l.at;
}

abbrev pub decreases-loop-from : goal.decreases-loop-from
decreases-loop-from l = l.from
