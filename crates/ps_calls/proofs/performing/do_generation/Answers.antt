use Rattle.std.proofs.Common.{ap, refl}
use Rattle.std.proofs.lemmas.Result.{err_from_is_err_and}
use Rattle.ps_board.specs.declared.board.Shown.{Shown}
use Rattle.ps_calls.proofs.Performed.{generated, unmade}
use Rattle.ps_calls.proofs.performing.do_generation.Goals as goal

pub returns-in_err-board : goal.returns-in_err-board
returns-in_err-board g c =
    let p = err_from_is_err_and c.from_residual.result c.from_residual.ensures.1 in
    rw (p.1, p.2) (generated c.args.generation c.args.generation.input (g.O.Sink.shown c.args.out.now) (g.O.Sink.shown c.args.out.now) _ (refl {a = c.args.generation.input})
    (unmade c.args.generation.input c.args.generation.carts (g.O.Sink.shown c.args.out.now)))

pub returns : goal.returns
returns g c =
    generated c.args.generation c.in_ok-board.board.input (g.O.Sink.shown c.args.out.now) (g.O.Sink.shown c.count_session.new.out) c.count_session.result
    (ap (λ (b : Shown). b.input) c.in_ok-board.ensures) c.count_session.ensures
