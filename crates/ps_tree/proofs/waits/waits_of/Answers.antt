use Rattle.std.proofs.Common.{arith}
use Rattle.std.proofs.lemmas.List.FromFn.{map-range_with_len_more}
use Rattle.ps_action.specs.Trees.{waits_for}
use Rattle.ps_tree.proofs.waits.waits_of.Goals as goal

pub loop-act-preserved : goal.loop-act-preserved
loop-act-preserved c =
    let act = c.loop-act.act in
    let more = map-range_with_len_more (waits_for c.args.arcs.now.pairs) 0 act act (omega arith) in
    cc (c.in_ok-push.ensures.items, c.in_ok-of.ensures)
