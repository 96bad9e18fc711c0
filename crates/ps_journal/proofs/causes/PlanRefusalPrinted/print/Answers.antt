use Rattle.ps_journal.proofs.causes.PlanRefusalPrinted.print.Goals as goal

pub returns-in-StartEffect : goal.returns-in-StartEffect
returns-in-StartEffect c = rw c.in-StartEffect.is c.push_step_cause-in-StartEffect.ensures
