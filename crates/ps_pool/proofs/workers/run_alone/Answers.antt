use Rattle.ps_pool.proofs.Closing.{settled-ended, settled-stopped}
use Rattle.ps_pool.proofs.Ran.{running-ran}
use Rattle.ps_pool.proofs.workers.run_alone.Goals as goal

pub work_alone-requires-clause-opened : goal.work_alone-requires-clause-opened
work_alone-requires-clause-opened g c = running-ran c.args.board.entries c.requires.opened

pub returns-clause-ended : goal.returns-clause-ended
returns-clause-ended g c =
    settled-ended c.args.workers c.args.board.input c.args.board.entries c.work_alone.result c.settle.result c.settle.ensures.history c.work_alone.ensures.input c.work_alone.ensures.grows
    c.requires.opened c.settle.ensures.closed c.settle.ensures.same

pub returns-clause-stopped : goal.returns-clause-stopped
returns-clause-stopped g c =
    settled-stopped c.args.workers c.args.board.input c.args.board.entries c.work_alone.result c.settle.result c.settle.ensures.history c.work_alone.ensures.input c.work_alone.ensures.grows
    c.settle.ensures.stopped c.settle.ensures.running
