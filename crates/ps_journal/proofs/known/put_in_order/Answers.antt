use Rattle.std.proofs.Common.{◌∙◌}
use Rattle.std.proofs.lemmas.List.Filters.{dedup_is}
use Rattle.ps_world.specs.Lines.{same_text}
use Rattle.ps_journal.proofs.InOrder.{in_order-sorted}
use Rattle.ps_journal.proofs.known.put_in_order.Goals as goal

pub returns : goal.returns
returns c =
    dedup_is same_text c.sort_unstable.new.self.items c.dedup.new.self.items c.dedup.ensures.filtered
    ∙ in_order-sorted c.args.lines.now.items c.sort_unstable.new.self.items c.sort_unstable.ensures.permutation c.sort_unstable.ensures.sorted
