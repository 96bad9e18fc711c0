use Rattle.ps_reports.proofs.Numbered.{audits}
use Rattle.ps_reports.proofs.auditing.audit_numbered.Goals as goal

pub returns : goal.returns
returns c = audits c.args.i.now c.args.h.now c.args.reports.now c.audit_firsts.result c.requires c.audit_firsts.ensures
