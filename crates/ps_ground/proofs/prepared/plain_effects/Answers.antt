use Rattle.std.proofs.Common.{◌≡◌, ◌+◌, ◌++◌, ◌∷◌, [], List, Option, drop, flat_map, option_to_list, ap, sym, ◌∙◌, arith}
use Rattle.std.proofs.lemmas.List.{append_assoc, drop_more}
use Rattle.ps_world.specs.declared.actions.Effect.{Effect}
use Rattle.ps_world.specs.declared.actions.Spread.{Spread}
use Rattle.ps_ground.specs.Prepared.{alone_in}
use Rattle.ps_ground.proofs.prepared.plain_effects.Goals as goal
use Rattle.ps_ground.proofs.prepared.plain_effects.Goals.{in-Some+in_ok-copy+in_ok-push, in_default}

pub loop-spread-preserved : goal.loop-spread-preserved
loop-spread-preserved c =
    let es = c.args.effects.now in
    let i = c.loop-spread.spread-index in
    let x = c.spread-item.result in
    let old = c.loop-spread.plain in
    let rest = flat_map alone_in (drop (i + 1) es) in
    let split : drop i es ≡ x ∷ drop (i + 1) es = drop_more es i x (omega arith) ∙ ap (λ (y : Spread). y ∷ drop (i + 1) es) (sym c.spread-item.is) in
    elim c.match-plain_of.branch [
      | in-Some+in_ok-copy+in_ok-push w ↦
          ap (λ (l : List Effect). l ++ rest) (w.plain-is ∙ w.in_ok-push.ensures.ok ∙ ap (λ (e : Effect). old ++ e ∷ []) w.in_ok-copy.ensures)
          ∙ append_assoc old (w.in-Some.effect.now ∷ []) rest
          ∙ ap (λ (o : Option Effect). old ++ (option_to_list o ++ rest)) (rw w.in-Some.is at c.plain_of.ensures)
          ∙ (λ j. old ++ flat_map alone_in (sym split j))
          ∙ c.loop-spread.invariant
      | in_default w ↦
          ap (λ (l : List Effect). l ++ rest) w.plain-is
          ∙ ap (λ (o : Option Effect). old ++ (option_to_list o ++ rest)) (rw w.in_default.is at c.plain_of.ensures)
          ∙ (λ j. old ++ flat_map alone_in (sym split j))
          ∙ c.loop-spread.invariant
    ]
