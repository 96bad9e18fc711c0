use Rattle.std.proofs.Common.{◌≡◌, ◌∙◌, List}
use Rattle.std.proofs.lemmas.Result.{IfOk-weaker}
use Rattle.ps_reports.specs.Audit.{IsAudit, kept, missing}
use Rattle.ps_report_lines.specs.Lines.{kept_lines, report_lines, reporters}
use Rattle.ps_calls.proofs.reported.lines_of.Goals as goal

pub returns : goal.returns
returns c =
    let names = c.args.names.now in
    let rs = c.args.reports.now in
    let i = c.input.result.now in
    let h = c.entries.result.now in
    let a : IsAudit i h rs c.in_ok-audit.audit = c.in_ok-audit.ensures in
    let told : kept_lines names c.args.who.now c.in_ok-audit.audit.kept c.in_ok-audit.audit.missing ≡ kept_lines names (reporters c.args.board.now.input) (kept i h rs) (missing i h rs) =
    λ t. kept_lines names (c.requires.who t) (a.kept_is t) (a.missing_is t) in
    let same : kept_lines names (reporters c.args.board.now.input) (kept i h rs) (missing i h rs) ≡ report_lines names c.args.board.now.input c.args.board.now.entries rs =
    λ t. kept_lines names (reporters c.args.board.now.input) (kept (c.input.ensures.input t) (c.entries.ensures.entries t) rs) (missing (c.input.ensures.input t) (c.entries.ensures.entries t) rs) in
    IfOk-weaker c.report_lines.result _ _ (λ text is. is ∙ (told ∙ same)) c.report_lines.ensures
