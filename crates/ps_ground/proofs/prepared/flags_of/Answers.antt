use Rattle.std.proofs.Common.{◌≡◌, List, flat_map, map, ap, sym, ◌∙◌, subst}
use Rattle.ps_world.specs.declared.actions.Effect.{Effect}
use Rattle.ps_action.specs.Effects.{flat}
use Rattle.ps_action.specs.Grounding.{put_spread}
use Rattle.ps_ground.specs.Atoms.{AddAtoms}
use Rattle.ps_ground.specs.Prepared.{put_alone}
use Rattle.ps_ground.specs.States.{at, changed_flat}
use Rattle.ps_ground.proofs.Alone.{flags_alone, flat_put, no_numbers}
use Rattle.ps_ground.proofs.MayAdd.{always_atoms}
use Rattle.ps_ground.proofs.Preparing.{flagged}
use Rattle.ps_ground.proofs.prepared.flags_of.Goals as goal

pub returns-clause-same : goal.returns-clause-same
returns-clause-same c =
    let args = c.args.args.now in
    let es = c.args.effects.now in
    let atoms = c.args.atoms.now in
    let put = flat_map (put_alone args) es in
    let P : List Effect → Type 0 = AddAtoms atoms in
    λ d k s o a.
    let same : flat d (at k s) (map (put_spread args) es) ≡ put = flat_put d (at k s) args es (flags_alone es c.requires) in
    flagged k s put (no_numbers args es c.requires) atoms c.in_ok-cleared.cleared.items c.in_ok-set.set.items o
    c.in_ok-cleared.ensures
    (c.in_ok-set.ensures (subst P same (always_atoms d k atoms (map (put_spread args) es) a s)))
    ∙ ap (changed_flat k s) (sym same)
