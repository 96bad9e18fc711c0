use Rattle.std.proofs.Common.{◌≡◌, ◌-◌, ◌≤◌, length, drop, map}
use Rattle.ps_lists.specs.Nested.{nesteds}
use Rattle.ps_lists.specs.NestedViews.{nested}
use Rattle.ps_lists.specs.Places.{section}
use Rattle.ps_lists.proofs.places.section.Given as goal

-- what is looked for is what it is among those that are left
abbrev pub invariant-loop-i : goal.invariant-loop-i
invariant-loop-i l = (l.i ≤ length l.trees) × (section l.mark (nesteds (map nested (drop l.i l.trees))) ≡ section l.mark (nesteds (map nested l.trees)))

abbrev pub decreases-loop-i : goal.decreases-loop-i
decreases-loop-i l = length l.trees - l.i
