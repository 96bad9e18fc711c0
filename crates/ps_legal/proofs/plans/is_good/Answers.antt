use Rattle.ps_state.proofs.Grounded.{good-each}
use Rattle.ps_legal.proofs.plans.is_good.Goals as goal

pub returns-in-Ok-clause-may : goal.returns-in-Ok-clause-may
returns-in-Ok-clause-may c = λ _. record { few = c.requires; grounded = good-each c.args.expert.now c.args.problem.now c.args.acts.now (c.in-Ok.ensures) }
