use Rattle.std.proofs.Common.{ap, length, ◌∙◌}
use Rattle.ps_rules.specs.Laws.{speaks_of}
use Rattle.ps_ledger.proofs.NewRequests.{tells-asked}
use Rattle.ps_ledger.proofs.requests.Requests.take.Goals as goal

pub returns-in-Request-clause-told : goal.returns-in-Request-clause-told
returns-in-Request-clause-told c =
    λ es e is t.
    tells-asked es e c.in-Request.r c.in-Request.act c.args.self.now c.push.new.self t (is ∙ c.in-Request.is) (ap (speaks_of (length c.args.self.now.all.items)) is ∙ c.requires.speaks) c.push.ensures.plan c.push.ensures.run c.push.ensures.all
