use Rattle.std.proofs.lemmas.Result.{err_from_is_err_and}
use Rattle.ps_calls.proofs.WithReports.{unreported}
use Rattle.ps_calls.proofs.reported.run_reported.Goals as goal

pub returns-in_err-who : goal.returns-in_err-who
returns-in_err-who g c =
    let p = err_from_is_err_and c.from_residual.result c.from_residual.ensures.1 in
    rw (p.1, p.2) (unreported c.args.turns c.args.input c.args.names.now (g.O.Sink.shown c.args.out.now))

pub returns-in_err-belt : goal.returns-in_err-belt
returns-in_err-belt g c =
    let r = c.from_residual-in_err-belt in
    let p = err_from_is_err_and r.result r.ensures.1 in
    rw (p.1, p.2) (unreported c.args.turns c.args.input c.args.names.now (g.O.Sink.shown c.args.out.now))

pub returns-in_err-reporting : goal.returns-in_err-reporting
returns-in_err-reporting g c =
    let r = c.from_residual-in_err-reporting in
    let p = err_from_is_err_and r.result r.ensures.1 in
    rw (p.1, p.2) (unreported c.args.turns c.args.input c.args.names.now (g.O.Sink.shown c.args.out.now))
