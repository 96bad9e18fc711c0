-- What is in a box or a list is smaller than the box or the list.
use Rattle.std.specs.Prelude.{◌≤◌, max, List, [], ◌∷◌, map}
use Rattle.std.proofs.Common.{arith}
use denote.Param.Weighed.{most}
use Rattle.ps_world.specs.Trees.{cond_rank, conds_rank}
use Rattle.ps_world.specs.CondViews.{cond_tree}
use Rattle.ps_world.specs.declared.conditions.Cond.{Cond}
use Rattle.ps_world.specs.declared.conditions.Cond.TheVariants.{And, Or, Not, Imply, Holds, Same, Cmp, IsA, ForSome, ForAll}
use Rattle.ps_world.specs.declared.conditions.BoxedCond.TheDeep.{deep-Cond}

deep_le-rank : (c : Cond) → deep-Cond c ≤ cond_rank (cond_tree c)
deep_le-rank (And cs) = omega arith
deep_le-rank (Or cs) = omega arith
deep_le-rank (Not c) = omega arith
deep_le-rank (Imply a b) = omega arith
deep_le-rank (Holds l) = omega arith
deep_le-rank (Same s t) = omega arith
deep_le-rank (Cmp r a b) = omega arith
deep_le-rank (IsA t k) = omega arith
deep_le-rank (ForSome ps c) = omega arith
deep_le-rank (ForAll ps c) = omega arith

pub cond_falls : (c : Cond) → max (deep-Cond c) 0 ≤ cond_rank (cond_tree c)
cond_falls c = omega (arith, deep_le-rank c)

most_le-rank : (cs : List Cond) → most deep-Cond cs ≤ conds_rank (map cond_tree cs)
most_le-rank [] = omega arith
most_le-rank (c ∷ cs) = omega (arith, deep_le-rank c, most_le-rank cs)

pub conds_fall : (cs : List Cond) → max (most deep-Cond cs) 0 ≤ conds_rank (map cond_tree cs)
conds_fall cs = omega (arith, most_le-rank cs)
