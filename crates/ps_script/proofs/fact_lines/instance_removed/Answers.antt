use Rattle.std.proofs.Common.{◌∙◌, sym}
use Rattle.ps_script.proofs.FactsSaid.{removed_means}
use Rattle.ps_script.proofs.fact_lines.instance_removed.Goals as goal

pub returns-in-len3 : goal.returns-in-len3
returns-in-len3 c =
    removed_means c.args.words.now c.name-item.result c.in-len3.len_at_least c.in-len3.len_below c.name-item.is (sym c.are_plain.ensures ∙ c.if-are_plain.true)
