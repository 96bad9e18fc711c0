use Rattle.std.proofs.lemmas.Result.{err_from_is_err_and}
use Rattle.ps_calls.proofs.Performed.{planned, unplanned}
use Rattle.ps_calls.proofs.performing.do_plan.Goals as goal

pub returns-in_err-told : goal.returns-in_err-told
returns-in_err-told g c =
    let p = err_from_is_err_and c.from_residual.result c.from_residual.ensures.1 in
    rw (p.1, p.2) (unplanned c.args.planning (g.O.Sink.shown c.args.out.now))

pub returns : goal.returns
returns g c =
    planned c.args.planning c.in_ok-told.told.text.items c.in_ok-told.told.status (g.O.Sink.shown c.args.out.now) (g.O.Sink.shown c.write_told.new.out) c.write_told.result c.in_ok-told.ensures c.write_told.ensures
