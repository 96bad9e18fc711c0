use Rattle.std.proofs.Common.{◌≡◌, ◌+◌, ◌++◌, ◌∷◌, [], List, drop, map, ap, sym, ◌∙◌, arith}
use Rattle.std.proofs.lemmas.List.{append_assoc, drop_more}
use Rattle.ps_world.specs.CondViews.{cond_tree}
use Rattle.ps_world.specs.Trees.{CondTree}
use Rattle.ps_world.specs.declared.conditions.Cond.{Cond}
use Rattle.ps_action.specs.Truth.{all_true}
use Rattle.ps_ground.specs.States.{at}
use Rattle.ps_ground.proofs.Settled.{left_out}
use Rattle.ps_ground.proofs.light.lighter.Goals as goal
use Rattle.ps_ground.proofs.light.lighter.Goals.{then-not-is_settled+in_ok-copy+in_ok-push, else-not-is_settled}

pub loop-cond-preserved : goal.loop-cond-preserved
loop-cond-preserved g c =
    let d = g.T.Types.types c.args.types.now in
    let k = g.K.Known.known c.args.given.now in
    let items = c.as_slice-cond-items.result.now in
    let i = c.loop-cond.cond-index in
    let x = c.cond-item.result in
    let light = c.loop-cond.light in
    let rest = map cond_tree (drop (i + 1) items) in
    let split : drop i items ≡ x ∷ drop (i + 1) items = drop_more items i x (omega arith) ∙ ap (λ (y : Cond). y ∷ drop (i + 1) items) (sym c.cond-item.is) in
    elim c.if-not-is_settled.branch [
      | then-not-is_settled+in_ok-copy+in_ok-push w ↦
          λ s.
          ap (λ (l : List CondTree). all_true d (at k s) (l ++ rest)) (w.light-is ∙ w.in_ok-push.ensures.ok ∙ ap (λ (y : Cond). light ++ cond_tree y ∷ []) w.in_ok-copy.ensures)
          ∙ ap (all_true d (at k s)) (append_assoc light (cond_tree x ∷ []) rest)
          ∙ (λ j. all_true d (at k s) (light ++ map cond_tree (sym split j)))
          ∙ c.loop-cond.invariant s
      | else-not-is_settled w ↦
          λ s.
          ap (λ (l : List CondTree). all_true d (at k s) (l ++ rest)) w.light-is
          ∙ left_out d (at k s) light rest (cond_tree x) (c.is_settled.ensures w.if-not-is_settled.false s)
          ∙ (λ j. all_true d (at k s) (light ++ map cond_tree (sym split j)))
          ∙ c.loop-cond.invariant s
    ]
