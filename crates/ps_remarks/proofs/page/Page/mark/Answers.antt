use Rattle.std.proofs.lemmas.Result.{on_ok_weaker}
use Rattle.ps_remarks.proofs.Marking.{marked}
use Rattle.ps_remarks.proofs.page.Page.mark.Goals as goal

pub returns : goal.returns
returns c =
    on_ok_weaker c.put-2.result
    (λ told. marked c.args.file.now c.args.text.now c.args.at c.args.sentence.now c.args.self.now c.place_of-place.result c.place_of-place.ensures _ _ _ _ _ _ c.in_ok-place.ensures c.in_ok-say.ensures c.in_ok-put.ensures c.in_ok-end.ensures told)
    c.put-2.ensures
