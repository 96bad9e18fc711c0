use Rattle.std.proofs.Common.{subst}
use Rattle.ps_session.specs.Session.{Runs}
use Rattle.ps_calls.proofs.Performed.{ran}
use Rattle.ps_calls.proofs.performing.do_session.Goals as goal

pub returns : goal.returns
returns g c =
    let old = g.O.Sink.shown c.args.out.now in
    let new = g.O.Sink.shown c.run.new.out in
    ran c.args.session old new c.run.result
    (subst (λ t. Runs t c.args.session.input c.args.session.names old new c.run.result) c.turns_of-turns.ensures.turns c.run.ensures)
