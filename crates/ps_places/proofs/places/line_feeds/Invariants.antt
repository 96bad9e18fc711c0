use Rattle.std.proofs.Common.{◌≡◌, ◌≤◌, take}
use Rattle.std.specs.List.{count_by}
use Rattle.ps_places.specs.Places.{is_line_feed}
use Rattle.ps_places.proofs.places.line_feeds.Given as goal

-- the LFs so far were counted
abbrev pub invariant-loop-i : goal.invariant-loop-i
invariant-loop-i l = record {
  count : l.count ≡ count_by is_line_feed (take l.i l.text);
  few : l.count ≤ l.i;
}
