use Rattle.std.proofs.Common.{Bool, List, length, ap, ◌∙◌}
use Rattle.ps_solve.specs.Reached.{rows_of}
use Rattle.ps_solve.proofs.Meeting.{from_below, wide_there}
use Rattle.ps_solve.proofs.expansion.Expansion.run.Goals as goal

pub last-last-requires : goal.last-last-requires
last-last-requires c = from_below c.args.self.now c.args.reached.now c.requires.expanding

pub attempt_all-requires-clause-able : goal.attempt_all-requires-clause-able
attempt_all-requires-clause-able c =
    let e = c.args.self.now in
    record {
      led = c.last-last.ensures;
      queue = c.requires.next;
      wide =
          ap (λ (l : List Bool). length l) c.in_ok-next.ensures.flags
          ∙ wide_there e.task.now.grounds.atoms (rows_of c.args.reached.now) e.from e.here c.requires.expanding.wide c.requires.expanding.there;
    }
