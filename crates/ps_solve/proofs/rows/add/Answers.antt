use Rattle.std.proofs.Common.{◌∷◌, [], List, option_to_list, ap, sym, ◌∙◌, subst}
use Rattle.ps_world.specs.declared.actions.Effect.{Effect}
use Rattle.ps_world.specs.declared.facts.Fact.{Fact}
use Rattle.ps_action.specs.Effects.{added_by}
use Rattle.ps_ground.specs.Atoms.{AreAtoms}
use Rattle.ps_solve.proofs.rows.add.Goals as goal

pub learn-place-requires-clause-atom : goal.learn-place-requires-clause-atom
learn-place-requires-clause-atom c =
    let P : List Fact → Type 0 = AreAtoms c.args.atoms.now in
    subst P (ap (λ (e : Effect). option_to_list (added_by e)) c.in-Add.is ∙ ap (λ (g : Fact). g ∷ []) (sym c.ground.ensures)) c.requires.atom
