use Rattle.std.proofs.Common.{List, ap, sym, ◌∙◌, subst}
use Rattle.ps_world.specs.declared.actions.Effect.{Effect}
use Rattle.ps_world.specs.declared.actions.Spread.{Spread}
use Rattle.ps_action.specs.Effects.{first_clash, flat}
use Rattle.ps_ground.specs.Prepared.{IsSoundChange}
use Rattle.ps_ground.specs.Atoms.{AddAtoms}
use Rattle.ps_ground.specs.States.{State, at}
use Rattle.ps_ground.specs.declared.prepared.Change.{Change}
use Rattle.ps_solve.proofs.task.Task.turn.Goals as goal

pub change-requires-clause-atoms : goal.change-requires-clause-atoms
change-requires-clause-atoms c =
    let t = c.args.self.now in
    let P : List Effect → Type 0 = AddAtoms t.grounds.atoms in
    let Q : Change → Type 0 = IsSoundChange t.expert.now t.problem.now t.grounds.atoms in
    subst P (sym c.as_slice.ensures) (subst Q c.in-Effects.is c.requires.sound).0

pub change-requires-clause-clash : goal.change-requires-clause-clash
change-requires-clause-clash c =
    let t = c.args.self.now in
    let Q : Change → Type 0 = IsSoundChange t.expert.now t.problem.now t.grounds.atoms in
    (subst Q c.in-Effects.is c.requires.sound).1 ∙ ap first_clash (sym c.as_slice.ensures)

pub change_spread-requires-clause-atoms : goal.change_spread-requires-clause-atoms
change_spread-requires-clause-atoms c =
    let t = c.args.self.now in
    let P : List Spread → Type 0 = λ es. (s : State) → AddAtoms t.grounds.atoms (flat t.expert.now (at t.problem.now s) es) in
    let Q : Change → Type 0 = IsSoundChange t.expert.now t.problem.now t.grounds.atoms in
    subst P (sym c.as_slice-in-Spreads.ensures) (subst Q c.in-Spreads.is c.requires.sound)
