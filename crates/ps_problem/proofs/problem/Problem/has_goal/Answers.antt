use Rattle.std.proofs.Common.{ap, sym, ◌∙◌}
use Rattle.ps_world.specs.declared.known.Knowledge.{Knowledge}
use Rattle.ps_problem.proofs.Goals.{same_goal}
use Rattle.ps_problem.proofs.problem.Problem.has_goal.Goals as goal

pub returns-in-Some : goal.returns-in-Some
returns-in-Some c =
    same_goal c.in-Some.there c.args.goal.now c.args.self.now.goal c.eq.result (sym (ap (λ (k : Knowledge). k.goal) c.self.view_is) ∙ c.in-Some.is) c.eq.ensures
