use Rattle.std.proofs.Common.{sym, subst}
use Rattle.ps_greedy.specs.Laws.{IsSoundAnswer}
use Rattle.ps_greedy.specs.declared.found.Found.{Found}
use Rattle.ps_portfolio.proofs.Levelling.{fitting_sound}
use Rattle.ps_portfolio.proofs.levels.LevelsPlanner.plan.Goals as goal

pub returns-clause-sound : goal.returns-clause-sound
returns-clause-sound c =
    let d = c.args.expert.now in
    let k = c.args.problem.now in
    let P : Found → Type 0 = IsSoundAnswer d k in
    subst P (sym c.found_of.ensures) (fitting_sound d k c.args.budget c.in_ok-answer.answer c.in_ok-answer.ensures.fits)
