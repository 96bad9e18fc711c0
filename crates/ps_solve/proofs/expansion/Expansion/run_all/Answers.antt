use Rattle.std.proofs.Common.{Bool, List, length, ap, ◌∙◌}
use Rattle.ps_solve.specs.Reached.{rows_of}
use Rattle.ps_solve.proofs.Meeting.{wide_there}
use Rattle.ps_solve.proofs.expansion.Expansion.run_all.Goals as goal

pub attempt_each-requires-clause-wide : goal.attempt_each-requires-clause-wide
attempt_each-requires-clause-wide c =
    let e = c.args.self.now in
    ap (λ (l : List Bool). length l) c.in_ok-next.ensures.flags
    ∙ wide_there e.task.now.grounds.atoms (rows_of c.args.reached.now) e.from e.here c.requires.wide c.requires.there
