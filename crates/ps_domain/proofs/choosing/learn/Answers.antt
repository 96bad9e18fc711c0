use Rattle.ps_domain.proofs.KnownChoices.{learnt}
use Rattle.ps_domain.proofs.choosing.learn.Goals as goal

pub returns-in_ok-insert : goal.returns-in_ok-insert
returns-in_ok-insert c =
    learnt c.args.expert.now c.args.sorted.now.entries c.args.param.now c.in_ok-names.names c.args.known.now.entries c.insert.new.self.entries c.in_ok-names.ensures c.requires c.in_ok-insert.ensures.updates.0
