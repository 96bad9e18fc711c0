use Rattle.std.proofs.Common.{◌≡◌, drop, map}
use Rattle.ps_lists.specs.Nested.{nesteds}
use Rattle.ps_lists.specs.NestedViews.{nested}
use Rattle.ps_script.specs.Scopes.{binds, names_of}
use Rattle.ps_script.proofs.scopes.binds.Given as goal

-- those that are left, where these are in force, bind what all of them do
abbrev pub invariant-loop-tree : goal.invariant-loop-tree
invariant-loop-tree l =
    binds (names_of l.all) (nesteds (map nested (drop l.tree-index l.trees))) ≡ binds (names_of l.fn.bound) (nesteds (map nested l.trees))
