use Rattle.std.proofs.Common.{List, [], ap, sym, ◌∙◌, subst}
use Rattle.ps_world.specs.declared.actions.Effect.{Effect}
use Rattle.ps_action.specs.Effects.{first_clash}
use Rattle.ps_ground.specs.Atoms.{AddAtoms}
use Rattle.ps_ground.specs.States.{State, at, changed_flat}
use Rattle.ps_ground.proofs.Alone.{flat_alone}
use Rattle.ps_ground.proofs.MayAdd.{always_atoms}
use Rattle.ps_ground.proofs.prepared.numbers_of.Goals as goal

pub returns-clause-same : goal.returns-clause-same
returns-clause-same c = λ d k atoms s. ap (changed_flat k s) (c.in_ok-effects.ensures ∙ sym (flat_alone d (at k s) c.args.effects.now c.requires))

pub returns-clause-sound : goal.returns-clause-sound
returns-clause-sound c = λ d k atoms a.
    let s : State = record { facts = []; values = [] } in
    let P : List Effect → Type 0 = AddAtoms atoms in
    let same = flat_alone d (at k s) c.args.effects.now c.requires ∙ sym c.in_ok-effects.ensures in
    (subst P same (always_atoms d k atoms c.args.effects.now a s), c.first_clash-clash.ensures ∙ ap first_clash c.as_slice.ensures)
