use Rattle.std.proofs.Common.{◌≡◌, ◌+◌, ◌++◌, ◌∷◌, List, drop, map, ap, sym, ◌∙◌, arith}
use Rattle.std.proofs.lemmas.List.{drop_more}
use Rattle.ps_world.specs.Trees.{CondTree}
use Rattle.ps_world.specs.declared.conditions.Cond.{Cond}
use Rattle.ps_action.specs.Grounding.{put_cond}
use Rattle.ps_action.specs.Truth.{all_true}
use Rattle.ps_ground.specs.States.{at}
use Rattle.ps_ground.proofs.Fixedness.{never_at}
use Rattle.ps_ground.proofs.fixed.has_never_holding.Goals as goal

pub returns-then-never_holds : goal.returns-then-never_holds
returns-then-never_holds c =
    let items = c.as_slice-cond-items.result.now in
    let i = c.loop-cond.cond-index in
    let x = c.cond-item.result in
    let split : drop i items ≡ x ∷ drop (i + 1) items = drop_more items i x (omega arith) ∙ ap (λ (y : Cond). y ∷ drop (i + 1) items) (sym c.cond-item.is) in
    λ yes tail laid first same d k s fixed.
    ap (λ (cs : List CondTree). all_true d (at k s) (map (put_cond (first ++ tail)) cs)) (sym c.as_slice-cond-items.ensures)
    ∙ never_at d k s (first ++ tail) i items (drop (i + 1) items) x split (c.never_holds.ensures c.if-never_holds.true tail laid first same d k s fixed)
