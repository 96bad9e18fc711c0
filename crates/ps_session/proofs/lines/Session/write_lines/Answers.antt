use Rattle.std.proofs.Common.{Some, Ok, Err, subst}
use Rattle.ps_rules.specs.Heads.{head_text, settings_of}
use Rattle.ps_session.specs.Lines.{PutsWork, WritesOn}
use Rattle.ps_session.proofs.Whole.{head-cut, line-cut, line-of, lines-begun, lines-done}
use Rattle.ps_session.proofs.lines.Session.write_lines.Goals as goal

pub returns-in-Err : goal.returns-in-Err
returns-in-Err g c =
    let start = g.O.Sink.shown c.args.out.now in
    let now = g.O.Sink.shown c.write_head.new.out in
    let put : PutsWork (head_text (Some (settings_of c.args.board.input))) start now (Err c.in-Err.why) =
    subst (λ i. PutsWork (head_text (Some (settings_of i))) start now (Err c.in-Err.why)) c.input.ensures.input c.in-Err.ensures in
    head-cut c.args.self.now.turns c.args.board.input c.args.self.now.names.now c.args.board start now c.in-Err.why put

pub loop-init : goal.loop-init
loop-init g c =
    let start = g.O.Sink.shown c.args.out.now in
    let now = g.O.Sink.shown c.write_head.new.out in
    let put : PutsWork (head_text (Some (settings_of c.args.board.input))) start now (Ok tt) =
    subst (λ i. PutsWork (head_text (Some (settings_of i))) start now (Ok tt)) c.input.ensures.input c.in-Ok.ensures in
    record {
      next = tt;
      finite = tt;
      written = lines-begun c.args.self.now.turns (g.S.Solver.says c.args.self.now.solver.now) c.args.board.input c.args.self.now.names.now c.args.board start now c.requires.fresh put;
    }

pub returns-in-Ok-false : goal.returns-in-Ok-false
returns-in-Ok-false g c =
    let i = c.args.board.input in
    let names = c.args.self.now.names.now in
    let says = g.S.Solver.says c.args.self.now.solver.now in
    let start = g.O.Sink.shown c.args.out.now in
    let now = g.O.Sink.shown c.write_line-next.new.out in
    let new = c.write_line-next.result.0 in
    let on : WritesOn c.args.self.now.turns says i names new start now c.write_line-next.result.1 =
    line-of c.args.self.now.turns says i names c.loop.board new start (g.O.Sink.shown c.loop.out) now c.write_line-next.result.1 c.loop.invariant.written c.write_line-next.ensures in
    lines-done c.args.self.now.turns i names new start now says c.in-Ok-false.field-0 c.requires.solver c.in-Ok-false.field-0-test
    (subst (WritesOn c.args.self.now.turns says i names new start now) c.in-Ok-false.is on)

pub returns-in-Err-more : goal.returns-in-Err-more
returns-in-Err-more g c =
    let i = c.args.board.input in
    let names = c.args.self.now.names.now in
    let says = g.S.Solver.says c.args.self.now.solver.now in
    let start = g.O.Sink.shown c.args.out.now in
    let now = g.O.Sink.shown c.write_line-next.new.out in
    let new = c.write_line-next.result.0 in
    let on : WritesOn c.args.self.now.turns says i names new start now c.write_line-next.result.1 =
    line-of c.args.self.now.turns says i names c.loop.board new start (g.O.Sink.shown c.loop.out) now c.write_line-next.result.1 c.loop.invariant.written c.write_line-next.ensures in
    line-cut c.args.self.now.turns i names new start now says c.in-Err-more.why
    (subst (WritesOn c.args.self.now.turns says i names new start now) c.in-Err-more.is on)
