use Rattle.std.proofs.Common.{◌∙◌}
use Rattle.std.proofs.lemmas.List.{take_rest}
use Rattle.ps_text.proofs.Pieces.{first-from, is_lf}
use Rattle.ps_text.proofs.spans.line_end.Goals as goal

pub returns-clause-end : goal.returns-clause-end
returns-clause-end c =
    first-from is_lf c.args.bytes.now _ c.near_line_end-near.result c.unwrap_or.result c.first_line_feed.result (take_rest c.args.bytes.now c.near_line_end-near.result) c.first_line_feed.ensures c.unwrap_or.ensures
    ∙ c.near_line_end-near.ensures.same
