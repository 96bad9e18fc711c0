-- What a search by levels finds is sound.
use Rattle.std.proofs.Common.{◌≡◌, ℕ}
use Rattle.ps_world.specs.declared.domains.Domain.{Domain}
use Rattle.ps_world.specs.declared.known.Knowledge.{Knowledge}
use Rattle.ps_action.specs.Search.{Fits}
use Rattle.ps_action.specs.declared.answers.Answer.{Answer}
use Rattle.ps_action.specs.declared.answers.Answer.TheVariants.{Plan, NoPlan, Spent, TooMany}
use Rattle.ps_solve_laws.proofs.NoneLaw.{no_plan_is_none}
use Rattle.ps_greedy.specs.Laws.{IsSoundAnswer}
use Rattle.ps_portfolio.specs.Choosing.{found_of}

-- what an answer finds that a solver may give is sound
pub fitting_sound : (d : Domain) (k : Knowledge) (budget : ℕ) (a : Answer) → Fits d k budget a → IsSoundAnswer d k (found_of a)
fitting_sound d k budget (Plan acts) f = f.0
fitting_sound d k budget NoPlan f = λ distinct acts. no_plan_is_none d k budget distinct.actions distinct.instances f acts
fitting_sound d k budget (Spent depth) f = tt
fitting_sound d k budget TooMany f = tt
