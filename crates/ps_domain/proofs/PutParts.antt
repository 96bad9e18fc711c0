-- Arguments put in place of variables, one part after another.
use Rattle.std.proofs.Common.{◌≡◌, List, [], ◌∷◌, map, refl}
use Rattle.ps_world.specs.Trees.{CondTree, cond_trees}
use Rattle.ps_world.specs.declared.names.Name.{Name}
use Rattle.ps_action.specs.Grounding.{put_cond, put_conds}

-- arguments put into several conditions
pub put_all : (args : List Name) (cs : List CondTree) → cond_trees (map (put_cond args) cs) ≡ put_conds args (cond_trees cs)
put_all args [] = refl
put_all args (c ∷ cs) = rw (put_all args cs) refl
