-- One level of a condition as a tree.
use Rattle.ps_world.specs.Trees.{CondTree, all_of, any_of, no, implied, holds, same, compares, is_a, for_some, for_all, cond_trees}
use Rattle.ps_world.specs.declared.conditions.Cond.{Cond}
use Rattle.ps_world.specs.declared.conditions.Cond.TheVariants.{And, Or, Not, Imply, Holds, Same, Cmp, IsA, ForSome, ForAll}

-- the tree of a condition
abbrev pub cond_tree : Cond → CondTree
cond_tree (And cs) = all_of (cond_trees cs)
cond_tree (Or cs) = any_of (cond_trees cs)
cond_tree (Not c) = no c
cond_tree (Imply a b) = implied a b
cond_tree (Holds l) = holds l
cond_tree (Same s t) = same s t
cond_tree (Cmp r a b) = compares r a b
cond_tree (IsA t k) = is_a t k
cond_tree (ForSome ps c) = for_some ps c
cond_tree (ForAll ps c) = for_all ps c
