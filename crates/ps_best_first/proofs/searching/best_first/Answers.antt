use Rattle.ps_best_first.proofs.Whole.{found_for, too_many}
use Rattle.ps_best_first.proofs.searching.best_first.Goals as goal

pub returns-in-Some : goal.returns-in-Some
returns-in-Some c =
    let made = rw c.in-Some.is at c.in_ok-task.ensures in
    found_for c.in-Some.task c.args.expert.now c.args.problem.now c.args.budget c.args.marks.now c.found.result made.0 made.1 c.found.ensures

pub returns-in-None : goal.returns-in-None
returns-in-None c = too_many c.args.expert.now c.args.problem.now c.args.budget c.args.marks.now (rw c.in-None.is at c.in_ok-task.ensures)
