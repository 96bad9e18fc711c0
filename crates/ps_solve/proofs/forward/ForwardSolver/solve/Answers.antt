use Rattle.std.proofs.Common.{Result, Ok}
use Rattle.ps_action.specs.declared.answers.Answer.{Answer}
use Rattle.ps_action.specs.declared.answers.Answer.TheVariants.{TooMany}
use Rattle.ps_solve.proofs.Answered.{answer_fits}
use Rattle.ps_solve.proofs.Whole.{answered_for, too_many}
use Rattle.ps_solve.proofs.forward.ForwardSolver.solve.Goals as goal

pub returns-in-Some-clause-says : goal.returns-in-Some-clause-says
returns-in-Some-clause-says c =
    let made = rw c.in-Some.is at c.in_ok-task.ensures in
    answered_for c.in-Some.task c.args.expert.now c.args.problem.now c.args.budget c.answer.result made.0 made.1 c.answer.ensures

pub returns-in-Some-clause-fits : goal.returns-in-Some-clause-fits
returns-in-Some-clause-fits c =
    let made = rw c.in-Some.is at c.in_ok-task.ensures in
    answer_fits c.args.expert.now c.args.problem.now c.args.budget c.answer.result
    (answered_for c.in-Some.task c.args.expert.now c.args.problem.now c.args.budget c.answer.result made.0 made.1 c.answer.ensures)

pub returns-in-None-clause-says : goal.returns-in-None-clause-says
returns-in-None-clause-says c = too_many c.args.expert.now c.args.problem.now c.args.budget (rw c.in-None.is at c.in_ok-task.ensures)

pub returns-in-None-clause-fits : goal.returns-in-None-clause-fits
returns-in-None-clause-fits c =
    let r : Result Answer (Unit {0}) = Ok TooMany in
    answer_fits c.args.expert.now c.args.problem.now c.args.budget r (too_many c.args.expert.now c.args.problem.now c.args.budget (rw c.in-None.is at c.in_ok-task.ensures))
