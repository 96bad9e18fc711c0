use Rattle.std.proofs.Common.{ap, sym, ◌∙◌, subst}
use Rattle.ps_audit.specs.Findings.{Finds, line_of_fault}
use Rattle.ps_audit.specs.Findings.Finds.{unread}
use Rattle.ps_audit.specs.declared.findings.Finding.TheVariants.{Illegal}
use Rattle.ps_audit.proofs.PrintedLines.{are-printed}
use Rattle.ps_audit.proofs.audits.audit.Goals as goal

pub judge-requires-clause-printed : goal.judge-requires-clause-printed
judge-requires-clause-printed g c =
    are-printed c.args.names.now c.args.journal.now _ _ _ c.len-count.ensures.names c.in-Ok.ensures.text.journal

pub returns-in_ok-text-in-Err-Refused-clause-finds : goal.returns-in_ok-text-in-Err-Refused-clause-finds
returns-in_ok-text-in-Err-Refused-clause-finds g c =
    subst (λ line. Finds c.args.input.now c.args.names.now c.args.journal.now (Illegal line)) (sym (c.line_of_fault-line.ensures ∙ ap line_of_fault c.in-Err-Refused.refusal-is))
    (unread c.in-Err-Refused.refusal (rw c.in-Err-Refused.field-0-is at c.in-Err-Refused.ensures.refused))
