use Rattle.ps_problem.proofs.Contained.{is_known-Contains}
use Rattle.ps_problem.proofs.problem.Problem.has.Goals as goal

pub returns-clause-listed : goal.returns-clause-listed
returns-clause-listed c = rw (c.contains.ensures, ← c.self.view_is) (is_known-Contains c.args.fact.now c.self.inside.facts)
