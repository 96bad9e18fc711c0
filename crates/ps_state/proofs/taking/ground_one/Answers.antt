use Rattle.ps_state.proofs.Grounded.{grounds-one}
use Rattle.ps_state.proofs.taking.ground_one.Goals as goal

pub returns-in-Ok : goal.returns-in-Ok
returns-in-Ok c = grounds-one c.args.expert.now c.args.instances.now c.args.act.now c.in-Ok.ground c.in-Ok.ensures.gives
