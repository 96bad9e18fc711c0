use Rattle.ps_pddl.proofs.meaning.effects.once.Goals as goal

pub returns : goal.returns
returns c = rw (c.binder.ensures.domain, c.binder.ensures.own) at c.guarded_one.ensures
