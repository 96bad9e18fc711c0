use Rattle.std.proofs.Common.{subst}
use Rattle.ps_calls.specs.Reported.{RunsReported}
use Rattle.ps_calls.proofs.performing.do_reported_session.Goals as goal

pub returns : goal.returns
returns g c =
    let old = g.O.Sink.shown c.args.out.now in
    let new = g.O.Sink.shown c.run_reported.new.out in
    subst (λ t. RunsReported t c.args.session.input c.args.session.names old new c.run_reported.result) c.turns_of-turns.ensures.turns c.run_reported.ensures
