use Rattle.std.proofs.Common.{sym, ◌∙◌}
use Rattle.std.proofs.lemmas.List.{take_rest}
use Rattle.ps_text.proofs.LineFeeds.{four-on}
use Rattle.ps_text.proofs.spans.near_line_end.Goals as goal

pub loop-at-preserved : goal.loop-at-preserved
loop-at-preserved c =
    let on = four-on c.args.bytes.now _ c.loop-at.at (take_rest c.args.bytes.now c.loop-at.at) (sym c.begins_with_four.ensures ∙ c.loop-at-test.true) in
    record { within = on.0; same = on.1 ∙ c.loop-at.invariant.same }
