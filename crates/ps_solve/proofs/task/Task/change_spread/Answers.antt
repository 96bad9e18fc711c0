use Rattle.std.proofs.Common.{List, sym, ◌∙◌, subst}
use Rattle.ps_world.specs.declared.actions.Effect.{Effect}
use Rattle.ps_ground.specs.Atoms.{AddAtoms}
use Rattle.ps_solve.specs.Rows.{plain_state}
use Rattle.ps_solve.proofs.task.Task.change_spread.Goals as goal

pub change-requires-clause-atoms : goal.change-requires-clause-atoms
change-requires-clause-atoms c =
    let atoms = c.args.self.now.grounds.atoms in
    let P : List Effect → Type 0 = AddAtoms atoms in
    subst P (sym (c.deref-2.ensures.value ∙ c.in_ok-flat.ensures)) (c.requires.atoms (plain_state atoms c.args.row.now))
