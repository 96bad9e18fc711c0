use Rattle.std.proofs.Common.{◌≡◌, ◌+◌, ◌∷◌, [], List, not, filter, drop, ap, sym, ◌∙◌, arith}
use Rattle.std.specs.List.{list_any}
use Rattle.std.proofs.lemmas.List.{drop_all, drop_more}
use Rattle.ps_world.specs.declared.actions.Effect.{Effect}
use Rattle.ps_world.specs.declared.facts.Fact.{Fact}
use Rattle.ps_action.specs.Effects.{deletes}
use Rattle.ps_solve.specs.Rows.{facts_of}
use Rattle.ps_ground.proofs.Removed.{filter_all, filter_either}
use Rattle.ps_solve.proofs.rows.delete_all.Goals as goal

pub loop-effect-preserved : goal.loop-effect-preserved
loop-effect-preserved c =
    let es = c.args.effects.now in
    let i = c.loop-effect.effect-index in
    let e = c.effect-item.result in
    let facts = facts_of c.args.atoms.now c.loop-effect.flags in
    let split : drop i es ≡ e ∷ drop (i + 1) es = drop_more es i e (omega arith) ∙ ap (λ (x : Effect). x ∷ drop (i + 1) es) (sym c.effect-item.is) in
    record {
      facts = ap (λ (fs : List Fact). filter (λ f. not (list_any (deletes f) (drop (i + 1) es))) fs) c.delete.ensures.facts
          ∙ filter_either (λ f. deletes f e) (λ f. list_any (deletes f) (drop (i + 1) es)) facts
          ∙ (λ j. filter (λ f. not (list_any (deletes f) (sym split j))) facts) ∙ c.loop-effect.invariant.facts;
      wide = c.delete.ensures.wide ∙ c.loop-effect.invariant.wide;
    }

pub returns-clause-facts : goal.returns-clause-facts
returns-clause-facts c =
    let es = c.args.effects.now in
    let i = c.loop-effect.effect-index in
    let facts = facts_of c.args.atoms.now c.loop-effect.flags in
    let gone : drop i es ≡ [] = drop_all i es (omega arith) in
    sym (filter_all facts) ∙ (λ j. filter (λ f. not (list_any (deletes f) (sym gone j))) facts) ∙ c.loop-effect.invariant.facts
