-- Trees as the definitions read them.
use Rattle.std.specs.Prelude.{List, map}
use Rattle.ps_lists.specs.Nested.{Nesteds, nesteds}
use Rattle.ps_lists.specs.NestedViews.{nested}
use Rattle.ps_lists.specs.declared.trees.Tree.{Tree}

-- the nested lists that trees are
abbrev pub forms : List Tree → Nesteds
forms trees = nesteds (map nested trees)
