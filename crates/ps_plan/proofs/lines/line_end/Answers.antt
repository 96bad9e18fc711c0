use Rattle.std.proofs.Common.{◌==◌, length, unwrap_or, ap, ◌∙◌}
use Rattle.ps_text.proofs.Pieces.{unwrap_or-position}
use Rattle.ps_plan.proofs.lines.line_end.Goals as goal

pub returns-clause-end : goal.returns-clause-end
returns-clause-end c =
    let bytes = c.args.bytes.now in
    c.unwrap_or.ensures ∙ ap (λ o. unwrap_or o (length bytes)) c.first_line_feed.ensures ∙ unwrap_or-position (λ b. b == 10) bytes
