use Rattle.std.proofs.Common.{subst}
use Rattle.ps_calls.specs.Headline.{turns_of}
use Rattle.ps_calls.specs.Reported.{RunsReported}
use Rattle.ps_calls.proofs.Ends.{reports-cut, reports-told}
use Rattle.ps_calls.proofs.calls.report_session.Goals as goal

pub returns-in-Ok : goal.returns-in-Ok
returns-in-Ok g c =
    let s = c.args.session in
    let old = g.O.Sink.shown c.args.out.now in
    let new = g.O.Sink.shown c.do_reported_session.new.out in
    let ran = subst (RunsReported (turns_of s) s.input s.names old new) c.in-Ok.is c.do_reported_session.ensures in
    reports-told s c.in-Ok.field-0 c.inform.result old new _ _ c.requires ran c.inform.ensures

pub returns-in-Err : goal.returns-in-Err
returns-in-Err g c =
    let s = c.args.session in
    let old = g.O.Sink.shown c.args.out.now in
    let new = g.O.Sink.shown c.do_reported_session.new.out in
    let ran = subst (RunsReported (turns_of s) s.input s.names old new) c.in-Err.is c.do_reported_session.ensures in
    reports-cut s c.in-Err.why c.give_up.result old new _ _ ran c.give_up.ensures
