use Rattle.std.proofs.Common.{◌≡◌, ◌≤◌, ◌-◌, ◌++◌, length, drop, map, take}
use Rattle.ps_lists.specs.Nested.{nesteds}
use Rattle.ps_lists.specs.NestedViews.{nested}
use Rattle.ps_script.specs.Goals.{kind_ahead, typed}
use Rattle.ps_script.proofs.names.typed.Given as goal

-- the run's type is that of those that are left, and so many of these after what is listed are the first of the whole list
abbrev pub invariant-loop-i : goal.invariant-loop-i
invariant-loop-i l = record {
  few : length l.all.items ≤ l.most;
  run : l.kind ≡ kind_ahead (nesteds (map nested (drop l.i l.trees)));
  whole : l.all.items ++ take (l.most - length l.all.items) (typed (nesteds (map nested (drop l.i l.trees)))) ≡ take l.most (typed (nesteds (map nested l.trees)));
}

abbrev pub decreases-loop-i : goal.decreases-loop-i
decreases-loop-i l = length l.trees - l.i
