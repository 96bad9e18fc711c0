-- A condition in a list has no more levels than the list.
use Rattle.std.proofs.Common.{◌≡◌, ℕ, ◌<◌, ◌≤◌, zero, suc, List, [], ◌∷◌, length, get_or, map, ap, arith}
use Rattle.ps_world.specs.Trees.{cond_rank, conds_rank}
use Rattle.ps_world.specs.CondViews.{cond_tree}
use Rattle.ps_world.specs.declared.conditions.Cond.{Cond}

pub rank_at : (cs : List Cond) (i : ℕ) (d : Cond) → i < length cs → cond_rank (cond_tree (get_or cs i d)) ≤ conds_rank (map cond_tree cs)
rank_at [] i d h = absurd (omega arith)
rank_at (c ∷ cs) zero d h = omega arith
rank_at (c ∷ cs) (suc i) d h = omega (arith, rank_at cs i d (omega arith))

pub rank_in : (cs : List Cond) (i : ℕ) (c : Cond) → i < length cs → c ≡ get_or cs i c → cond_rank (cond_tree c) ≤ conds_rank (map cond_tree cs)
rank_in cs i c h at = omega (arith, ap (λ d. cond_rank (cond_tree d)) at, rank_at cs i c h)
