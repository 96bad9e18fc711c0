use Rattle.std.proofs.Common.{◌∙◌, sym}
use Rattle.ps_lists.specs.NestedViews.{nested}
use Rattle.ps_pddl.proofs.EffectForms.{effect_adds}
use Rattle.ps_pddl.proofs.meaning.effects.effect.Goals as goal

pub returns-then-is_addition : goal.returns-then-is_addition
returns-then-is_addition c =
    let adds = effect_adds c.args.scope.now.domain.now c.args.scope.now.params.now (nested c.args.tree.now) c.args.all.now (sym c.is_addition.ensures ∙ c.if-is_addition.true) in
    rw (adds, ← c.items.ensures) c.add_fact.ensures
