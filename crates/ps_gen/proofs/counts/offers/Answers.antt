use Rattle.std.proofs.Common.{◌∙◌, rules, tests}
use Rattle.std.proofs.lemmas.Iterator.{YieldsList-from_slice}
use Rattle.std.proofs.lemmas.Iterator.Consumers.{YieldsList-from_filter, count_from_yields_List}
use Rattle.std.proofs.lemmas.List.Sums.{length-filter}
use Rattle.ps_gen.specs.Summary.{is_offer}
use Rattle.ps_gen.proofs.counts.offers.Goals as goal

pub returns : goal.returns
returns c =
    count_from_yields_List c.filter.result _ c.count.ensures.ran (
    YieldsList-from_filter _ (λ entry. is_offer entry.what) (YieldsList-from_slice c.args.entries.now (cc)) c.filter.ensures.closure (λ x b q k. search (rules, tests))
    )
    ∙ length-filter (λ entry. is_offer entry.what) c.args.entries.now
