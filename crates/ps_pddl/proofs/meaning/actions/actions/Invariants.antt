use Rattle.std.proofs.Common.{◌≡◌, ◌-◌, [], length, drop, map}
use Rattle.ps_lists.specs.Nested.{nesteds}
use Rattle.ps_lists.specs.NestedViews.{nested}
use Rattle.ps_pddl.specs.Meaning.{actions}
use Rattle.ps_pddl.proofs.meaning.actions.actions.Given as goal

-- the actions of the sections that are left, after those before, are all of them
abbrev pub invariant-loop-i : goal.invariant-loop-i
invariant-loop-i l = actions l.d (nesteds (map nested (drop l.i l.trees))) l.all ≡ actions l.d (nesteds (map nested l.trees)) []

abbrev pub decreases-loop-i : goal.decreases-loop-i
decreases-loop-i l = length l.trees - l.i
