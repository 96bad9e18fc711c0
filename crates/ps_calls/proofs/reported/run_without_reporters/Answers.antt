use Rattle.std.proofs.Common.{[], subst, sym, ap, ◌∙◌}
use Rattle.ps_report_lines.specs.Lines.{reporters}
use Rattle.ps_session.specs.Session.{RunsTo}
use Rattle.ps_calls.proofs.WithReports.{reported-cut, reported-done}
use Rattle.ps_calls.proofs.reported.run_without_reporters.Goals as goal

pub returns-in-Ok : goal.returns-in-Ok
returns-in-Ok g c =
    let names = c.args.names.now in
    let old = g.O.Sink.shown c.args.out.now in
    let new = g.O.Sink.shown c.run_to_board.new.out in
    let ran = subst (RunsTo c.args.turns c.args.input names old new) c.in-Ok.is c.run_to_board.ensures in
    reported-done c.args.turns c.args.input names old new c.in-Ok.board c.outcome_of.result [] ran c.outcome_of.ensures.status c.outcome_of.ensures.lines

pub returns-in-Err : goal.returns-in-Err
returns-in-Err g c =
    let names = c.args.names.now in
    let old = g.O.Sink.shown c.args.out.now in
    let new = g.O.Sink.shown c.run_to_board.new.out in
    let ran = subst (RunsTo c.args.turns c.args.input names old new) c.in-Err.is c.run_to_board.ensures in
    reported-cut c.args.turns c.args.input names old new c.in-Err.why ran
