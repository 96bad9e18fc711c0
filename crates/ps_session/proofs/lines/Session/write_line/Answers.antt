use Rattle.std.proofs.Common.{ℕ, ◌≤◌, IfOk, subst, sym}
use Rattle.ps_session.specs.Lines.{acts_in, Advances, AsksFor}
use Rattle.ps_session.proofs.Whole.{line-written, starved-line}
use Rattle.ps_session.proofs.Writing.{asks-since, told-since}
use Rattle.ps_session.proofs.lines.Session.write_line.Goals as goal

pub write_more-more-requires-clause-asks : goal.write_more-more-requires-clause-asks
write_more-more-requires-clause-asks g c =
    let says = g.S.Solver.says c.args.self.now.solver.now in
    let new = c.advance-board.result.0 in
    let went : Advances c.args.self.now.turns says c.args.board.input c.args.board new c.in-Ok.came =
    subst (λ r. IfOk r (Advances c.args.self.now.turns says c.args.board.input c.args.board new)) c.in-Ok.is c.advance-board.ensures in
    asks-since c.args.self.now.turns says c.args.board.input c.args.board new c.in-Ok.came went

pub write_more-more-requires-clause-told : goal.write_more-more-requires-clause-told
write_more-more-requires-clause-told g c =
    let says = g.S.Solver.says c.args.self.now.solver.now in
    let new = c.advance-board.result.0 in
    let went : Advances c.args.self.now.turns says c.args.board.input c.args.board new c.in-Ok.came =
    subst (λ r. IfOk r (Advances c.args.self.now.turns says c.args.board.input c.args.board new)) c.in-Ok.is c.advance-board.ensures in
    let told = told-since c.args.self.now.turns says c.args.board.input c.args.board new c.in-Ok.came went c.requires.solver in
    subst (λ j. (k : ℕ) → c.in-Ok.came.from ≤ k → AsksFor j new.entries (acts_in c.in-Ok.came.plan) k) (sym went.idle.input) told

pub returns-in-Ok : goal.returns-in-Ok
returns-in-Ok g c =
    let says = g.S.Solver.says c.args.self.now.solver.now in
    let new = c.advance-board.result.0 in
    let went : Advances c.args.self.now.turns says c.args.board.input c.args.board new c.in-Ok.came =
    subst (λ r. IfOk r (Advances c.args.self.now.turns says c.args.board.input c.args.board new)) c.in-Ok.is c.advance-board.ensures in
    line-written c.args.self.now.turns says c.args.board.input c.args.self.now.names.now c.args.board new c.in-Ok.came (g.O.Sink.shown c.args.out.now) (g.O.Sink.shown c.write_more-more.new.out)
    c.requires.solver went c.write_more-more.ensures.history c.write_more-more.result c.write_more-more.ensures.text c.write_more-more.ensures.more

pub returns-in-Err : goal.returns-in-Err
returns-in-Err g c =
    starved-line c.args.self.now.turns (g.S.Solver.says c.args.self.now.solver.now) c.args.board.input c.args.self.now.names.now c.args.board c.advance-board.result.0 (g.O.Sink.shown c.args.out.now) c.requires.solver
