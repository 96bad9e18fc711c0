use Rattle.std.proofs.Common.{refl}
use Rattle.std.proofs.lemmas.Result.{on_err_weaker, on_ok_weaker}
use Rattle.ps_pool.proofs.Ran.{running-ran}
use Rattle.ps_pool.proofs.Rounds.{ends, reached-in-run, reaches, rounds-lead, rounds-stop, stops, stops-running}
use Rattle.ps_pool.proofs.ordered.go_on.Goals as goal

pub loop-init : goal.loop-init
loop-init g c = record {
  next = tt;
  finite = tt;
  rest = c.requires.rest;
  input = refl;
  ran = running-ran c.args.board.now.entries c.requires.opened;
  leads = λ es t. t;
}

pub returns-in-Ok-true-clause-ends : goal.returns-in-Ok-true-clause-ends
returns-in-Ok-true-clause-ends g c =
    ends (g.S.Solver.says c.args.solver.now) c.args.board.now.input c.args.board.now.entries c.take_round.new.board.entries
    (reaches (g.S.Solver.says c.args.solver.now) c.args.board.now.input c.args.board.now.entries c.take_round.new.board.entries
    (rounds-lead (g.S.Solver.says c.args.solver.now) c.args.board.now.input c.loop.board.input c.args.board.now.entries c.loop.board.entries c.take_round.new.board.entries c.loop.invariant.input c.loop.invariant.leads c.in-Ok-true.ensures.ok))
    (c.in-Ok-true.ensures.over c.in-Ok-true.field-0-test)

pub returns-in-Ok-true-clause-in_run : goal.returns-in-Ok-true-clause-in_run
returns-in-Ok-true-clause-in_run g c =
    reached-in-run (g.S.Solver.says c.args.solver.now) c.args.board.now.input c.args.board.now.entries c.take_round.new.board.entries
    (reaches (g.S.Solver.says c.args.solver.now) c.args.board.now.input c.args.board.now.entries c.take_round.new.board.entries
    (rounds-lead (g.S.Solver.says c.args.solver.now) c.args.board.now.input c.loop.board.input c.args.board.now.entries c.loop.board.entries c.take_round.new.board.entries c.loop.invariant.input c.loop.invariant.leads c.in-Ok-true.ensures.ok))

pub returns-in-Err-clause-ends : goal.returns-in-Err-clause-ends
returns-in-Err-clause-ends g c =
    on_ok_weaker c.stop.result
    (λ over. ends (g.S.Solver.says c.args.solver.now) c.args.board.now.input c.args.board.now.entries c.take_round.new.board.entries
    (stops (g.S.Solver.says c.args.solver.now) c.args.board.now.input c.args.board.now.entries c.take_round.new.board.entries
    (rounds-stop (g.S.Solver.says c.args.solver.now) c.args.board.now.input c.loop.board.input c.args.board.now.entries c.loop.board.entries c.take_round.new.board.entries c.loop.invariant.input c.loop.invariant.leads c.in-Err.ensures.err))
    over)
    c.stop.ensures.over

pub returns-in-Err-clause-stops : goal.returns-in-Err-clause-stops
returns-in-Err-clause-stops g c =
    on_err_weaker c.stop.result
    (λ running. stops-running (g.S.Solver.says c.args.solver.now) c.args.board.now.input c.args.board.now.entries c.take_round.new.board.entries
    (stops (g.S.Solver.says c.args.solver.now) c.args.board.now.input c.args.board.now.entries c.take_round.new.board.entries
    (rounds-stop (g.S.Solver.says c.args.solver.now) c.args.board.now.input c.loop.board.input c.args.board.now.entries c.loop.board.entries c.take_round.new.board.entries c.loop.invariant.input c.loop.invariant.leads c.in-Err.ensures.err))
    running)
    c.stop.ensures.running

pub returns-in-Err-clause-in_run : goal.returns-in-Err-clause-in_run
returns-in-Err-clause-in_run g c =
    reached-in-run (g.S.Solver.says c.args.solver.now) c.args.board.now.input c.args.board.now.entries c.take_round.new.board.entries
    (stops (g.S.Solver.says c.args.solver.now) c.args.board.now.input c.args.board.now.entries c.take_round.new.board.entries
    (rounds-stop (g.S.Solver.says c.args.solver.now) c.args.board.now.input c.loop.board.input c.args.board.now.entries c.loop.board.entries c.take_round.new.board.entries c.loop.invariant.input c.loop.invariant.leads c.in-Err.ensures.err))
