use Rattle.std.proofs.Common.{◌∷◌, [], option_to_list, fold, ap, sym, ◌∙◌, subst}
use Rattle.std.specs.BTreeSet.{insert_key}
use Rattle.ps_world.specs.Facts.{fact_cmp}
use Rattle.ps_world.specs.declared.actions.Effect.{Effect}
use Rattle.ps_world.specs.declared.facts.Fact.{Fact}
use Rattle.ps_action.specs.Effects.{added_by}
use Rattle.ps_action.specs.Grounding.{put_effect}
use Rattle.ps_ground.specs.Atoms.{AreAtoms}
use Rattle.ps_ground.proofs.Fixedness.{fact_put_in}
use Rattle.ps_ground.proofs.Preparing.{placed_add}
use Rattle.ps_ground.proofs.prepared.added.Goals as goal

pub returns-in-Add : goal.returns-in-Add
returns-in-Add c =
    let atoms = c.args.atoms.now in
    let args = c.args.args.now in
    let l = c.in-Add.lifted in
    let P : Effect → Type 0 = λ e. AreAtoms atoms (option_to_list (added_by (put_effect args e))) in
    let Q : Fact → Type 0 = λ g. AreAtoms atoms (g ∷ []) in
    λ all fs.
    placed_add atoms c.ground_in.result fs c.place_near.result c.place_near.ensures.place (subst Q (fact_put_in args l ∙ sym c.ground_in.ensures) (subst P c.in-Add.is all))
    ∙ ap (insert_key fact_cmp fs) (c.ground_in.ensures ∙ sym (fact_put_in args l))
    ∙ (λ i. fold (insert_key fact_cmp) fs (option_to_list (added_by (put_effect args (sym c.in-Add.is i)))))
