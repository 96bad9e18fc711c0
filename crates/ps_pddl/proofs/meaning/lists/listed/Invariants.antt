use Rattle.std.proofs.Common.{◌≡◌, ◌-◌, length, drop, map}
use Rattle.ps_lists.specs.Nested.{nesteds}
use Rattle.ps_lists.specs.NestedViews.{nested}
use Rattle.ps_pddl.specs.Lists.{kind_ahead, listed}
use Rattle.ps_pddl.proofs.meaning.lists.listed.Given as goal

-- the run's type is that of those that are left, and these after what is listed make the whole list
abbrev pub invariant-loop-i : goal.invariant-loop-i
invariant-loop-i l = record {
  run : l.kind ≡ kind_ahead (nesteds (map nested (drop l.i l.trees)));
  whole : listed l.d l.listing (nesteds (map nested (drop l.i l.trees))) l.all.items ≡ listed l.d l.listing (nesteds (map nested l.trees)) l.before;
}

abbrev pub decreases-loop-i : goal.decreases-loop-i
decreases-loop-i l = length l.trees - l.i
