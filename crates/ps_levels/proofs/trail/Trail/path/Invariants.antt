use Rattle.std.proofs.Common.{◌≡◌, ◌≤◌, ◌++◌, [], length, reverse, slice_index_or}
use Rattle.ps_levels.specs.Paths.{paths}
use Rattle.ps_levels.proofs.trail.Trail.path.Given as goal

-- the path to where the walk is, with what was walked back, is the path
abbrev pub invariant-loop-at : goal.invariant-loop-at
invariant-loop-at l = record {
  there : l.at ≤ length l.self;
  same : slice_index_or (paths l.self) l.at [] ++ reverse l.path.items ≡ slice_index_or (paths l.self) l.place [];
}

abbrev pub decreases-loop-at : goal.decreases-loop-at
decreases-loop-at l = l.at
