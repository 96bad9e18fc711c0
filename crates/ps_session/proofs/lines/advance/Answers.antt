use Rattle.std.proofs.Common.{Some, ap, length, refl, ◌∙◌}
use Rattle.ps_session.proofs.Advancing.{advances-end, advances-planned, advances-run, advances-said, Commanded, now-running}
use Rattle.ps_session.specs.declared.lines.Advanced.{Advanced}
use Rattle.ps_session.specs.declared.ways.Turns.TheVariants.{InOrder}
use Rattle.ps_session.proofs.Steps.{ended-in-order}
use Rattle.ps_session.proofs.lines.advance.Goals as goal

pub go_on-requires-clause-opened : goal.go_on-requires-clause-opened
go_on-requires-clause-opened g c =
    let did = c.in_ok-command.ensures in
    let says = g.S.Solver.says c.args.solver.now in
    let did : Commanded says c.args.board.now c.command.new.self c.in_ok-command.field-0 =
    record { answer = did.answer; end = did.end; did = did.did } in
    now-running InOrder says c.args.board.now c.command.new.self c.in_ok-command.field-0 did c.requires.idle c.in-Opened.is

pub returns-in-End : goal.returns-in-End
returns-in-End g c =
    let did = c.in_ok-command.ensures in
    let says = g.S.Solver.says c.args.solver.now in
    let did : Commanded says c.args.board.now c.command.new.self c.in_ok-command.field-0 =
    record { answer = did.answer; end = did.end; did = did.did } in
    let place = ap length c.entries-from.ensures.entries in
    advances-end InOrder says c.args.board.now c.command.new.self c.in_ok-command.field-0 did c.requires.idle c.without_plan.result (ap (λ (a : Advanced). a.from) c.without_plan.ensures ∙ place) c.in-End.is

pub returns-in-Said : goal.returns-in-Said
returns-in-Said g c =
    let did = c.in_ok-command.ensures in
    let says = g.S.Solver.says c.args.solver.now in
    let did : Commanded says c.args.board.now c.command.new.self c.in_ok-command.field-0 =
    record { answer = did.answer; end = did.end; did = did.did } in
    let place = ap length c.entries-from.ensures.entries in
    advances-said InOrder says c.args.board.now c.command.new.self c.in_ok-command.field-0 did c.requires.idle c.without_plan-in-Said.result
    (ap (λ (a : Advanced). a.from) c.without_plan-in-Said.ensures ∙ place) c.entries-from.ensures.history c.in-Said.is

pub returns-in-Planned : goal.returns-in-Planned
returns-in-Planned g c =
    let did = c.in_ok-command.ensures in
    let says = g.S.Solver.says c.args.solver.now in
    let did : Commanded says c.args.board.now c.command.new.self c.in_ok-command.field-0 =
    record { answer = did.answer; end = did.end; did = did.did } in
    let place = ap length c.entries-from.ensures.entries in
    let came : Advanced = record { from = length c.entries-from.result.now; plan = Some c.in-Planned.acts } in
    advances-planned InOrder says c.args.board.now c.command.new.self c.in_ok-command.field-0 did c.requires.idle came c.in-Planned.acts place c.entries-from.ensures.history
    c.in-Planned.is refl

pub returns-in_ok-go_on-in-Opened : goal.returns-in_ok-go_on-in-Opened
returns-in_ok-go_on-in-Opened g c =
    let did = c.in_ok-command.ensures in
    let says = g.S.Solver.says c.args.solver.now in
    let did : Commanded says c.args.board.now c.command.new.self c.in_ok-command.field-0 =
    record { answer = did.answer; end = did.end; did = did.did } in
    let place = ap length c.entries-from.ensures.entries in
    let ran = c.in_ok-go_on-in-Opened.ensures in
    advances-run InOrder says c.args.board.now c.command.new.self c.in_ok-command.field-0 did c.requires.idle c.without_plan-in-Opened.result c.go_on.new.board
    (ap (λ (a : Advanced). a.from) c.without_plan-in-Opened.ensures ∙ place) c.entries-from.ensures.history c.in-Opened.is
    (ended-in-order says c.command.new.self.input c.command.new.self.entries c.go_on.new.board.entries ran.ends ran.in_run) ran.rest ran.input
