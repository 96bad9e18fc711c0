use Rattle.std.proofs.Common.{[], ◌∷◌, ◌++◌, map, sym, ap, ◌∙◌, arith}
use Rattle.std.specs.List.{range_with_len}
use Rattle.std.proofs.lemmas.List.FromFn.{map-range_with_len_more}
use Rattle.ps_hub.specs.Belts.{DeskView, new_desk}
use Rattle.ps_hub.proofs.belt.Belt.deal.Goals as goal

pub loop-by-preserved : goal.loop-by-preserved
loop-by-preserved c =
    let before = c.loop-by.invariant in
    let pushed = c.push_reserved.ensures in
    let f = new_desk c.args.self.now in
    let by = c.loop-by.by in (
      c.deal_one-desk.ensures.token,
      pushed.items ∙ (ap (λ xs. xs ++ c.deal_one-desk.result ∷ []) before.1 ∙ (ap (λ (d : DeskView). map f (range_with_len 0 by) ++ d ∷ []) c.deal_one-desk.ensures.desk ∙ sym (map-range_with_len_more f 0 by by (omega arith)))),
      (let len = before.2 in let more = pushed.len in omega arith),
      pushed.capacity ∙ before.3,
    )
