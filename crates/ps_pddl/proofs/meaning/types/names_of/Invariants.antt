use Rattle.std.proofs.Common.{◌≡◌, ◌-◌, [], length, drop, map}
use Rattle.ps_lists.specs.Nested.{nesteds}
use Rattle.ps_lists.specs.NestedViews.{nested}
use Rattle.ps_pddl.specs.Types.{names_of}
use Rattle.ps_pddl.proofs.meaning.types.names_of.Given as goal

-- the names of those that are left, after these, are all names
abbrev pub invariant-loop-i : goal.invariant-loop-i
invariant-loop-i l = names_of (nesteds (map nested (drop l.i l.trees))) l.all.items ≡ names_of (nesteds (map nested l.trees)) []

abbrev pub decreases-loop-i : goal.decreases-loop-i
decreases-loop-i l = length l.trees - l.i
