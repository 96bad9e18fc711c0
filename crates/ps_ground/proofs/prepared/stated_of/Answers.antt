use Rattle.std.proofs.Common.{List, ap, sym, subst}
use Rattle.ps_world.specs.declared.actions.Spread.{Spread}
use Rattle.ps_action.specs.Effects.{flat}
use Rattle.ps_ground.specs.Atoms.{AddAtoms}
use Rattle.ps_ground.specs.States.{State, at, changed}
use Rattle.ps_ground.proofs.MayAdd.{always_atoms}
use Rattle.ps_ground.proofs.prepared.stated_of.Goals as goal

pub returns-clause-same : goal.returns-clause-same
returns-clause-same c = λ d k atoms s. ap (changed d k s) c.in_ok-copy.ensures

pub returns-clause-sound : goal.returns-clause-sound
returns-clause-sound c = λ d k atoms a.
    let P : List Spread → Type 0 = λ es. (s : State) → AddAtoms atoms (flat d (at k s) es) in
    subst P (sym c.in_ok-copy.ensures) (always_atoms d k atoms c.args.effects.now a)
