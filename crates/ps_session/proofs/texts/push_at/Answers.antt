use Rattle.std.proofs.Common.{◌≡◌, ◌<◌, Some, ◌++◌, OnOk, length, slice_get, refl, ap, sym, subst, arith}
use Rattle.std.proofs.lemmas.Option.{slice_get_read}
use Rattle.ps_session.proofs.Asking.{at-place, replies-there}
use Rattle.ps_session.proofs.texts.push_at.Goals as goal

pub returns : goal.returns
returns c =
    let i = c.args.board.now.input in
    let es = c.args.board.now.entries in
    let shown = c.entries.result.now in
    let e = c.index-entries-k.result in
    let lt : c.args.k < length shown = omega (arith, ap length c.entries.ensures.entries, c.requires.there) in
    let at : slice_get es c.args.k ≡ Some e =
    subst (λ xs. slice_get xs c.args.k ≡ Some e) c.entries.ensures.entries (slice_get_read shown (length shown) c.args.k e refl lt c.index-entries-k.is) in
    subst (λ text. OnOk c.push_entry.result (c.push_entry.new.out.items ≡ c.args.text.now.items ++ text)) (sym (at-place c.args.names.now i es c.args.k e at))
    (c.push_entry.ensures i _ (replies-there i es c.args.k e c.expert.result.now c.problem.result.now c.args.plan.now _ at c.requires.asks c.entries.ensures.history c.expert.ensures
    c.problem.ensures c.tree.ensures c.requires.told))
