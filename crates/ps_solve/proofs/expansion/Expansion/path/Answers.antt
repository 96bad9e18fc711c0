use Rattle.ps_solve.proofs.Meeting.{from_below}
use Rattle.ps_solve.proofs.expansion.Expansion.path.Goals as goal

pub path-requires : goal.path-requires
path-requires c = from_below c.args.self.now c.args.reached.now c.requires
