use Rattle.std.proofs.lemmas.Result.{on_err_weaker, on_ok_weaker}
use Rattle.ps_pool.proofs.Rounds.{round-leads, stops-at}
use Rattle.ps_pool.proofs.TickerTurns.{ran-ticker}
use Rattle.ps_pool.proofs.ordered.take_round.Goals as goal

pub returns-clause-ok : goal.returns-clause-ok
returns-clause-ok g c =
    on_ok_weaker c.take_tick.result
    (λ is. round-leads (g.S.Solver.says c.args.solver.now) c.args.board.now.input c.take_members.new.board.input c.args.board.now.entries c.take_members.new.board.entries
    c.take_tick.new.board.entries c.take_members.ensures.input (c.in_ok-take_members.ensures.ok (g.S.Solver.says c.args.solver.now)) is)
    c.take_tick.ensures.ok

pub returns-clause-err : goal.returns-clause-err
returns-clause-err g c =
    on_err_weaker c.take_tick.result
    (λ same. stops-at (g.S.Solver.says c.args.solver.now) c.args.board.now.input 0 _ c.args.board.now.entries c.take_members.new.board.entries c.take_tick.new.board.entries
    (c.in_ok-take_members.ensures.ok (g.S.Solver.says c.args.solver.now)) same)
    c.take_tick.ensures.err

pub returns-clause-ran : goal.returns-clause-ran
returns-clause-ran g c =
    on_ok_weaker c.take_tick.result
    (λ is. ran-ticker (g.S.Solver.says c.args.solver.now) c.take_members.new.board.input c.take_members.new.board.entries c.take_tick.new.board.entries is (c.take_members.ensures.ran c.requires.ran))
    c.take_tick.ensures.ok
