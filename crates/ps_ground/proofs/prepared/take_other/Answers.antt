use Rattle.std.proofs.Common.{◌≡◌, ◌&&◌, ◌++◌, ◌∷◌, [], List, ap, sym, ◌∙◌}
use Rattle.std.specs.List.{list_all}
use Rattle.ps_world.specs.CondViews.{cond_tree}
use Rattle.ps_world.specs.Trees.{CondTree}
use Rattle.ps_world.specs.declared.conditions.Cond.{Cond}
use Rattle.ps_world.specs.declared.names.Name.{Name}
use Rattle.ps_action.specs.Grounding.{put_cond}
use Rattle.ps_action.specs.Truth.{all_true, is_true}
use Rattle.ps_ground.specs.States.{at}
use Rattle.ps_ground.specs.Prepared.{known_at, passes}
use Rattle.ps_ground.proofs.Preparing.{more_others}
use Rattle.ps_ground.proofs.PuttingIn.{no_cond, none_of}
use Rattle.ps_ground.proofs.prepared.take_other.Goals as goal

pub returns-clause-taken : goal.returns-clause-taken
returns-clause-taken c = λ yes d k atoms s.
    let wanted = c.args.test.now.wanted.items in
    let others = c.args.test.now.others in
    let tree = cond_tree c.args.cond.now in
    let none : c.args.args.now ≡ [] = none_of c.args.args.now c.is_empty.result c.is_empty.ensures c.if-not-is_empty.false in
    ap (λ (l : List CondTree). list_all (known_at atoms s) wanted && all_true d (at k s) l) (c.in_ok-push.ensures.ok ∙ ap (λ (y : Cond). others ++ cond_tree y ∷ []) c.in_ok-copy.ensures)
    ∙ more_others d k atoms s wanted others tree
    ∙ ap (λ (t : CondTree). passes d k atoms c.args.test.now s && is_true d (at k s) t) (sym (no_cond tree))
    ∙ ap (λ (names : List Name). passes d k atoms c.args.test.now s && is_true d (at k s) (put_cond names tree)) (sym none)
