use Rattle.std.proofs.Common.{None, Some, ap, length, refl, ◌∙◌}
use Rattle.ps_session.specs.declared.ways.Turns.TheVariants.{Workers}
use Rattle.ps_session.proofs.Advancing.{advances-end, advances-planned, advances-said, advances-worked, commanded-so, Commanded, now-running}
use Rattle.ps_session.specs.declared.lines.Advanced.{Advanced}
use Rattle.ps_session.proofs.lines.Session.advance_by_workers.Goals as goal

pub work_on-requires-clause-opened : goal.work_on-requires-clause-opened
work_on-requires-clause-opened g c κs within =
    let says = g.S.Solver.says c.args.self.now.solver.now in
    let e = c.command-step.ensures in
    let did : Commanded says c.args.board c.command-step.new.self c.in-Ok.step =
    commanded-so says c.args.board c.command-step.new.self c.command-step.result c.in-Ok.step c.in-Ok.is e.answer e.end e.did in
    now-running (Workers c.args.workers) says c.args.board c.command-step.new.self c.in-Ok.step did c.requires.idle c.in-Opened.is

pub returns-in-End : goal.returns-in-End
returns-in-End g c =
    let says = g.S.Solver.says c.args.self.now.solver.now in
    let e = c.command-step.ensures in
    let did : Commanded says c.args.board c.command-step.new.self c.in-Ok.step =
    commanded-so says c.args.board c.command-step.new.self c.command-step.result c.in-Ok.step c.in-Ok.is e.answer e.end e.did in
    advances-end (Workers c.args.workers) says c.args.board c.command-step.new.self c.in-Ok.step did c.requires.idle c.without_plan.result
    (ap (λ (a : Advanced). a.from) c.without_plan.ensures ∙ ap length c.entries-from.ensures.entries) c.in-End.is

pub returns-in-Said : goal.returns-in-Said
returns-in-Said g c =
    let says = g.S.Solver.says c.args.self.now.solver.now in
    let e = c.command-step.ensures in
    let did : Commanded says c.args.board c.command-step.new.self c.in-Ok.step =
    commanded-so says c.args.board c.command-step.new.self c.command-step.result c.in-Ok.step c.in-Ok.is e.answer e.end e.did in
    advances-said (Workers c.args.workers) says c.args.board c.command-step.new.self c.in-Ok.step did c.requires.idle c.without_plan-in-Said.result
    (ap (λ (a : Advanced). a.from) c.without_plan-in-Said.ensures ∙ ap length c.entries-from.ensures.entries) c.entries-from.ensures.history c.in-Said.is

pub returns-in-Planned : goal.returns-in-Planned
returns-in-Planned g c =
    let says = g.S.Solver.says c.args.self.now.solver.now in
    let e = c.command-step.ensures in
    let did : Commanded says c.args.board c.command-step.new.self c.in-Ok.step =
    commanded-so says c.args.board c.command-step.new.self c.command-step.result c.in-Ok.step c.in-Ok.is e.answer e.end e.did in
    let came : Advanced = record { from = length c.entries-from.result.now; plan = Some c.in-Planned.acts } in
    advances-planned (Workers c.args.workers) says c.args.board c.command-step.new.self c.in-Ok.step did c.requires.idle came c.in-Planned.acts
    (ap length c.entries-from.ensures.entries) c.entries-from.ensures.history c.in-Planned.is refl

pub returns-in-Opened : goal.returns-in-Opened
returns-in-Opened g c =
    let says = g.S.Solver.says c.args.self.now.solver.now in
    let e = c.command-step.ensures in
    let did : Commanded says c.args.board c.command-step.new.self c.in-Ok.step =
    commanded-so says c.args.board c.command-step.new.self c.command-step.result c.in-Ok.step c.in-Ok.is e.answer e.end e.did in
    let w = c.work_on.ensures in
    let came : Advanced = record { from = length c.entries-from.result.now; plan = None } in
    advances-worked c.args.workers says c.args.board c.command-step.new.self c.in-Ok.step did c.requires.idle c.work_on.result.1 came c.work_on.result.0
    (ap length c.entries-from.ensures.entries) c.entries-from.ensures.history c.in-Opened.is w.came w.ended w.rest w.input
