use Rattle.std.proofs.Common.{◌≡◌, drop}
use Rattle.ps_world.specs.Knowledge.{first_fault, misfit_of_term}
use Rattle.ps_action.proofs.goals.first_term_misfit.Given as goal

abbrev pub invariant-loop-at : goal.invariant-loop-at
invariant-loop-at g l =
    first_fault (misfit_of_term (g.T.Types.types l.types) (g.K.Known.known l.known) l.kinds) (drop l.at l.params) (drop l.at l.terms) l.at
    ≡ first_fault (misfit_of_term (g.T.Types.types l.types) (g.K.Known.known l.known) l.kinds) l.params l.terms 0
