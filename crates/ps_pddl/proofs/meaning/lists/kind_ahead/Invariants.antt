use Rattle.std.proofs.Common.{◌≡◌, ◌-◌, length, drop, map}
use Rattle.ps_lists.specs.Nested.{nesteds}
use Rattle.ps_lists.specs.NestedViews.{nested}
use Rattle.ps_pddl.specs.Lists.{kind_ahead}
use Rattle.ps_pddl.proofs.meaning.lists.kind_ahead.Given as goal

-- the type is what it is for those that are left
abbrev pub invariant-loop-i : goal.invariant-loop-i
invariant-loop-i l = kind_ahead (nesteds (map nested (drop l.i l.trees))) ≡ kind_ahead (nesteds (map nested (drop l.fn.from l.trees)))

abbrev pub decreases-loop-i : goal.decreases-loop-i
decreases-loop-i l = length l.trees - l.i
