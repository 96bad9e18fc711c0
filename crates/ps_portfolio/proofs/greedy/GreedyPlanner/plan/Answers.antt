use Rattle.ps_best_first.proofs.Whole.{too_many}
use Rattle.ps_portfolio.specs.Marking.{marks_of}
use Rattle.ps_portfolio.proofs.Greediness.{found_sound}
use Rattle.ps_portfolio.proofs.greedy.GreedyPlanner.plan.Goals as goal

pub returns-in-Some-clause-sound : goal.returns-in-Some-clause-sound
returns-in-Some-clause-sound c =
    found_sound c.args.expert.now c.args.problem.now c.args.budget c.deref.result.now c.best_first.result c.best_first.ensures

pub returns-in-None-clause-says : goal.returns-in-None-clause-says
returns-in-None-clause-says c =
    let d = c.args.expert.now in
    let k = c.args.problem.now in
    too_many d k c.args.budget (marks_of c.args.self.now.kind d k) (rw c.in-None.is at c.in_ok-marks.ensures)
