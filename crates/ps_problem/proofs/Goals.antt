-- Conditions with the same tree are the same.
use Rattle.std.proofs.Common.{◌≡◌, ◌↔◌, Bool, true, Option, Some, ap, sym, ◌∙◌}
use Rattle.ps_world.specs.Same.{is_same, is_same_decides}
use Rattle.ps_world.specs.Trees.{cond_tree_code}
use Rattle.ps_world.specs.CondViews.{cond_tree}
use Rattle.ps_world.specs.declared.conditions.Cond.{Cond}
use Rattle.ps_world.proofs.OneTree.{cond_tree_one}

-- the test of two conditions decides that one is the goal
pub same_goal : (there goal : Cond) (held : Option Cond) (b : Bool) → held ≡ Some there → b ≡ is_same cond_tree_code (cond_tree there) (cond_tree goal) → (b ≡ true) ↔ (held ≡ Some goal)
same_goal there goal held b h e =
    let decides = is_same_decides cond_tree_code (cond_tree there) (cond_tree goal) in (
      λ t. h ∙ ap Some (cond_tree_one there goal (decides.0 (sym e ∙ t))),
      λ w. let same : there ≡ goal = cc in e ∙ decides.1 (ap cond_tree same),
    )
