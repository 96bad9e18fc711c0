use Rattle.std.proofs.Common.{Ok, Err, ap, subst}
use Rattle.std.proofs.lemmas.Result.{err_from_is_err_and}
use Rattle.ps_board.specs.declared.board.Shown.{Shown}
use Rattle.ps_session.specs.Lines.{WritesLines}
use Rattle.ps_session.proofs.Whole.{session-cut, session-done, unrun}
use Rattle.ps_session.proofs.session.run_to_board.Goals as goal

pub returns-in_err-expert : goal.returns-in_err-expert
returns-in_err-expert g c =
    let p = err_from_is_err_and c.from_residual.result c.from_residual.ensures.1 in
    rw (p.1, p.2) (unrun c.args.turns c.args.input c.args.names.now (g.O.Sink.shown c.args.out.now))

pub returns-in_err-board : goal.returns-in_err-board
returns-in_err-board g c =
    let p = err_from_is_err_and c.from_residual-in_err-board.result c.from_residual-in_err-board.ensures.1 in
    rw (p.1, p.2) (unrun c.args.turns c.args.input c.args.names.now (g.O.Sink.shown c.args.out.now))

pub returns-in-Ok : goal.returns-in-Ok
returns-in-Ok g c =
    let names = c.args.names.now in
    let start = g.O.Sink.shown c.args.out.now in
    let now = g.O.Sink.shown c.write_lines-board.new.out in
    let new = c.write_lines-board.result.0 in
    let same = ap (λ (b : Shown). b.input) c.in_ok-board.ensures in
    let w : WritesLines c.args.turns c.args.input names new start now (Ok tt) =
    subst (WritesLines c.args.turns c.args.input names new start now) c.in-Ok.is
    (subst (λ i. WritesLines c.args.turns i names new start now c.write_lines-board.result.1) same c.write_lines-board.ensures) in
    session-done c.args.turns c.args.input names new start now c.requires.names c.requires.sound w

pub returns : goal.returns
returns g c =
    let names = c.args.names.now in
    let start = g.O.Sink.shown c.args.out.now in
    let now = g.O.Sink.shown c.write_lines-board.new.out in
    let new = c.write_lines-board.result.0 in
    let same = ap (λ (b : Shown). b.input) c.in_ok-board.ensures in
    let w : WritesLines c.args.turns c.args.input names new start now (Err c.in-Err.why) =
    subst (WritesLines c.args.turns c.args.input names new start now) c.in-Err.is
    (subst (λ i. WritesLines c.args.turns i names new start now c.write_lines-board.result.1) same c.write_lines-board.ensures) in
    session-cut c.args.turns c.args.input names new start now c.in-Err.why w
