use Rattle.std.proofs.Common.{◌≡◌, map, ap, ◌∙◌}
use Rattle.ps_undo.specs.Saved.{IsInLineOrder}
use Rattle.ps_undo.proofs.LineOrders.{if_ok, in_line_order}
use Rattle.ps_undo.proofs.saving.in_line_order.Goals as goal

pub returns : goal.returns
returns g c =
    if_ok (λ parts. parts.items ≡ map (λ line. line.1) c.deref.result.now) (λ ordered. IsInLineOrder c.args.names.now g.T.Part.set c.args.parts.now ordered.items) (λ v h.
    in_line_order c.args.names.now g.T.Part.set g.T.Ord.cmp c.args.parts.now c.in_ok-lines.lines.items c.sort_unstable.new.self.items v.items c.in_ok-lines.ensures c.sort_unstable.ensures.permutation c.sort_unstable.ensures.sorted (h ∙ ap (map (λ line. line.1)) c.deref.ensures.value)) c.parts_of.result c.parts_of.ensures
