-- What stands between two parentheses is smaller than what they belong to.
use Rattle.std.specs.Prelude.{◌≤◌, max, List, [], ◌∷◌, map}
use Rattle.std.proofs.Common.{arith}
use denote.Param.Weighed.{most}
use Rattle.ps_lists.specs.Nested.{rank, ranks, nesteds}
use Rattle.ps_lists.specs.NestedViews.{nested}
use Rattle.ps_lists.specs.declared.trees.Tree.{Tree}
use Rattle.ps_lists.specs.declared.trees.Tree.TheVariants.{Word, Group}
use Rattle.ps_lists.specs.declared.trees.Trees.TheDeep.{deep-Tree}

deep_le-rank : (t : Tree) → deep-Tree t ≤ rank (nested t)
deep_le-rank (Word l) = omega arith
deep_le-rank (Group ts) = omega arith

most_le-rank : (ts : List Tree) → most deep-Tree ts ≤ ranks (nesteds (map nested ts))
most_le-rank [] = omega arith
most_le-rank (t ∷ ts) = omega (arith, deep_le-rank t, most_le-rank ts)

pub trees_fall : (ts : List Tree) → max (most deep-Tree ts) 0 ≤ ranks (nesteds (map nested ts))
trees_fall ts = omega (arith, most_le-rank ts)
