use Rattle.std.proofs.Common.{◌∙◌}
use Rattle.ps_ledger.proofs.Passes.{reason}
use Rattle.ps_ledger.proofs.ledger.Ledger.pass_reason.Goals as goal

pub returns : goal.returns
returns c = λ es p t named matches. c.pass_where.ensures ∙ reason es p c.args.r c.args.by c.is_open-open.result c.args.matches c.is_engaged-engaged.result (c.is_open-open.ensures es t) matches (c.is_engaged-engaged.ensures es t.performers) named
