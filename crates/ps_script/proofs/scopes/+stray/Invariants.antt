use Rattle.std.proofs.Common.{◌≡◌, ◌+◌, ◌*◌, drop, map}
use Rattle.ps_lists.specs.Nested.{nesteds, rank, ranks}
use Rattle.ps_lists.specs.NestedViews.{nested}
use Rattle.ps_script.specs.Scopes.{names_of, strays}
use Rattle.ps_script.proofs.scopes.+stray.Given as goal

abbrev pub decreases-stray : goal.decreases-stray
decreases-stray l = 3 * rank (nested l.tree.now)

abbrev pub decreases-stray_form : goal.decreases-stray_form
decreases-stray_form l = 3 * ranks (nesteds (map nested l.trees.now)) + 2

abbrev pub decreases-strays : goal.decreases-strays
decreases-strays l = 3 * ranks (nesteds (map nested l.trees.now)) + 1

-- none is out of its scope up to here
abbrev pub invariant-strays-loop-tree : goal.invariant-strays-loop-tree
invariant-strays-loop-tree l =
    strays (names_of l.bound) (nesteds (map nested (drop l.tree-index l.trees))) ≡ strays (names_of l.bound) (nesteds (map nested l.trees))
