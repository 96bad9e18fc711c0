use Rattle.std.proofs.Common.{◌≡◌, ◌-◌, [], length, drop, map}
use Rattle.ps_lists.specs.Nested.{nesteds}
use Rattle.ps_lists.specs.NestedViews.{nested}
use Rattle.ps_pddl.specs.Meaning.{all_declared}
use Rattle.ps_pddl.proofs.meaning.declarations.all_declared.Given as goal

-- what those that are left declare, after these, is what all declare
abbrev pub invariant-loop-i : goal.invariant-loop-i
invariant-loop-i l = all_declared l.d l.which (nesteds (map nested (drop l.i l.trees))) l.all ≡ all_declared l.d l.which (nesteds (map nested l.trees)) []

abbrev pub decreases-loop-i : goal.decreases-loop-i
decreases-loop-i l = length l.trees - l.i
