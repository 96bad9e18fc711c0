use Rattle.std.proofs.Common.{◌∙◌, ap}
use Rattle.ps_gen.proofs.Counted.{summary_is}
use Rattle.ps_gen.proofs.counts.summary.Goals as goal

pub returns : goal.returns
returns c =
    ap (λ v. v.items) c.into_bytes.ensures.value
    ∙ summary_is _ _ _ _ _ _ _ c.args.carts c.runs.result c.starts.result c.requests.result c.offers.result c.args.entries.now c.new-text.ensures.bytes c.in_ok-push_count.ensures
    c.in_ok-push_count-2.ensures c.runs.ensures c.in_ok-push_count-3.ensures c.starts.ensures c.in_ok-push_count-4.ensures c.requests.ensures c.in_ok-push_count-5.ensures c.offers.ensures
    c.in_ok-push_count-6.ensures
