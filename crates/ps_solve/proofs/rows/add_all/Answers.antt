use Rattle.std.proofs.Common.{◌≡◌, ◌+◌, ◌∷◌, drop, fold, filter_map, ap, sym, ◌∙◌, arith}
use Rattle.std.specs.BTreeSet.{insert_key}
use Rattle.std.proofs.lemmas.List.{drop_more}
use Rattle.ps_world.specs.Facts.{fact_cmp}
use Rattle.ps_world.specs.declared.actions.Effect.{Effect}
use Rattle.ps_action.specs.Effects.{added_by}
use Rattle.ps_solve.specs.Rows.{facts_of}
use Rattle.ps_ground.proofs.Preparing.{added_more, adds_split}
use Rattle.ps_solve.proofs.rows.add_all.Goals as goal

pub loop-effect-preserved : goal.loop-effect-preserved
loop-effect-preserved c =
    let es = c.args.effects.now in
    let i = c.loop-effect.effect-index in
    let e = c.effect-item.result in
    let facts = facts_of c.args.atoms.now c.loop-effect.flags in
    let split : drop i es ≡ e ∷ drop (i + 1) es = drop_more es i e (omega arith) ∙ ap (λ (x : Effect). x ∷ drop (i + 1) es) (sym c.effect-item.is) in
    record {
      facts = (λ j. fold (insert_key fact_cmp) (c.add.ensures.facts j) (filter_map added_by (drop (i + 1) es)))
          ∙ added_more es i e facts split ∙ c.loop-effect.invariant.facts;
      wide = c.add.ensures.wide ∙ c.loop-effect.invariant.wide;
      left = (adds_split c.args.atoms.now e es i split c.loop-effect.invariant.left).1;
    }

pub add-requires-clause-atom : goal.add-requires-clause-atom
add-requires-clause-atom c =
    let es = c.args.effects.now in
    let i = c.loop-effect.effect-index in
    let e = c.effect-item.result in
    let split : drop i es ≡ e ∷ drop (i + 1) es = drop_more es i e (omega arith) ∙ ap (λ (x : Effect). x ∷ drop (i + 1) es) (sym c.effect-item.is) in
    (adds_split c.args.atoms.now e es i split c.loop-effect.invariant.left).0
