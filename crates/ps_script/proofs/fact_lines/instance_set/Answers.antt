use Rattle.std.proofs.Common.{◌∙◌, sym}
use Rattle.ps_script.proofs.FactsSaid.{set_means}
use Rattle.ps_script.proofs.fact_lines.instance_set.Goals as goal

pub returns-in-len4 : goal.returns-in-len4
returns-in-len4 c =
    set_means c.args.words.now c.name-item.result c.kind-item.result c.in-len4.len_at_least c.in-len4.len_below c.name-item.is c.kind-item.is (sym c.are_plain.ensures ∙ c.if-are_plain.true)
