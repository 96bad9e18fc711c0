use Rattle.std.proofs.Common.{ap, subst, ◌∙◌}
use Rattle.ps_rules.specs.History.{status_of}
use Rattle.ps_session.specs.Session.{RunsTo}
use Rattle.ps_session.proofs.Whole.{run-cut, run-done}
use Rattle.ps_session.proofs.session.run.Goals as goal

pub returns-in-Ok : goal.returns-in-Ok
returns-in-Ok g c =
    let names = c.args.names.now in
    let start = g.O.Sink.shown c.args.out.now in
    let now = g.O.Sink.shown c.run_to_board.new.out in
    run-done c.args.turns c.args.input names c.in-Ok.board start now c.status_of.result (c.status_of.ensures ∙ ap status_of c.entries.ensures.entries)
    (subst (RunsTo c.args.turns c.args.input names start now) c.in-Ok.is c.run_to_board.ensures)

pub returns-in-Err : goal.returns-in-Err
returns-in-Err g c =
    let names = c.args.names.now in
    let start = g.O.Sink.shown c.args.out.now in
    let now = g.O.Sink.shown c.run_to_board.new.out in
    run-cut c.args.turns c.args.input names start now c.in-Err.why
    (subst (RunsTo c.args.turns c.args.input names start now) c.in-Err.is c.run_to_board.ensures)
