use Rattle.ps_members.proofs.TextLines.{bad_leads, nothing_leads, said_leads}
use Rattle.ps_members.proofs.reading.step.Goals as goal

pub returns-then-is_nothing-clause-leads : goal.returns-then-is_nothing-clause-leads
returns-then-is_nothing-clause-leads c =
    nothing_leads c.args.expert.now c.args.n c.args.at c.args.names.now c.args.line.now _ c.is_nothing.ensures c.if-is_nothing.true

pub returns-in-Ok-clause-leads : goal.returns-in-Ok-clause-leads
returns-in-Ok-clause-leads c =
    said_leads c.args.expert.now c.args.n c.args.at c.args.names.now _ c.args.line.now _ _ _ _ c.is_nothing.ensures c.if-is_nothing.false c.read_said.ensures.read c.in-Ok.is c.moved.ensures

pub returns-in-Err-Refused-clause-leads : goal.returns-in-Err-Refused-clause-leads
returns-in-Err-Refused-clause-leads c =
    bad_leads c.args.expert.now c.args.n c.args.at c.args.names.now _ c.args.line.now _ _ _ _ _ c.is_nothing.ensures c.if-is_nothing.false c.read_said.ensures.read c.in-Err-Refused.is c.in-Err-Refused.field-0-is c.in-Err-Refused.cause-is
