use Rattle.std.proofs.Common.{◌≡◌, drop}
use Rattle.ps_world.specs.Knowledge.{first_misfit_by}
use Rattle.ps_action.proofs.misfits.first_misfit.Given as goal

abbrev pub invariant-loop-at : goal.invariant-loop-at
invariant-loop-at g l =
    first_misfit_by g.R.Misfit.unknown g.R.Misfit.unfit (g.T.Types.types l.types) (g.K.Known.known l.known).instances (drop l.at l.params) (drop l.at l.names) l.at
    ≡ first_misfit_by g.R.Misfit.unknown g.R.Misfit.unfit (g.T.Types.types l.types) (g.K.Known.known l.known).instances l.params l.names 0
