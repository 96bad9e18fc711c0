use Rattle.std.proofs.Common.{◌∙◌}
use Rattle.ps_world.specs.Knowledge.{is_known}
use Rattle.ps_ground.specs.States.{at}
use Rattle.ps_solve.specs.Rows.{plain_state}
use Rattle.ps_solve.proofs.AnyRow.{known_said}
use Rattle.ps_solve.proofs.task.Task.is_known.Goals as goal

pub returns : goal.returns
returns c =
    let here = c.at-here.ensures in
    c.has.ensures
    ∙ (λ j. is_known (at (here.given j) (plain_state (here.atoms j) (here.row j))) c.args.fact.now)
    ∙ known_said c.args.self.now c.args.reached.now c.args.place c.row-row.result.now c.args.fact.now c.row-row.ensures
