use mir.Syntax.{named}
use denote.Ref.{NamedLft}
use Rattle.ps_reporting.proofs.Sends.{gate_sync}
use Rattle.std.proofs.Common.{subst, sym, ap, ◌∙◌}
use Rattle.ps_report_lines.specs.Lines.{reporters}
use Rattle.ps_session.specs.Session.{RunsTo}
use Rattle.ps_calls.proofs.WithReports.{reported-cut, reported-done}
use Rattle.ps_calls.proofs.reported.run_with_reporters.Goals as goal

pub returns-in-Ok : goal.returns-in-Ok
returns-in-Ok g c =
    let names = c.args.names.now in
    let old = g.O.Sink.shown c.args.out.now in
    let new = g.O.Sink.shown c.run_to_board-ran.new.out in
    let ran = subst (RunsTo c.args.turns c.args.input names old new) c.in-Ok.is c.run_to_board-ran.ensures in
    reported-done c.args.turns c.args.input names old new c.in-Ok.board c.outcome_of.result c.got.result.now ran c.outcome_of.ensures.status c.outcome_of.ensures.lines

pub returns : goal.returns
returns g c =
    let names = c.args.names.now in
    let old = g.O.Sink.shown c.args.out.now in
    let new = g.O.Sink.shown c.run_to_board-ran.new.out in
    let ran = subst (RunsTo c.args.turns c.args.input names old new) c.in-Err.is c.run_to_board-ran.ensures in
    reported-cut c.args.turns c.args.input names old new c.in-Err.why ran

pub run_to_board-ran-requires-sync-G : goal.run_to_board-ran-requires-sync-G
run_to_board-ran-requires-sync-G g c κs within =
    let ℓ : NamedLft = record { mir = named 9; lft = κs.1.1.1.1.1.1.1.1.1.0 } in
    let m : NamedLft = record { mir = named 10; lft = κs.1.1.1.1.1.1.1.1.1.1.0 } in
    record { shared = (gate_sync ℓ m _ c.type_bounds.sync-G).shared }
