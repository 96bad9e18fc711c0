use Rattle.std.proofs.Common.{ap, ◌∙◌}
use Rattle.ps_rules.specs.Runs.{has_run}
use Rattle.ps_pool.proofs.Closing.{back-stopped, grown-book, settled-ended, settled-stopped}
use Rattle.ps_pool.proofs.Ran.{running-ran}
use Rattle.ps_pool.proofs.workers.run_workers.Goals as goal

pub work_book-requires-clause-opened : goal.work_book-requires-clause-opened
work_book-requires-clause-opened g c κs within = ap has_run c.in-Ok.ensures.book.1 ∙ running-ran c.args.board.entries c.requires.opened

pub returns-in-Ok-clause-ended : goal.returns-in-Ok-clause-ended
returns-in-Ok-clause-ended g c =
    settled-ended c.args.workers c.args.board.input c.args.board.entries c.work_book.result c.settle.result c.settle.ensures.history (c.work_book.ensures.input ∙ c.in-Ok.ensures.book.2)
    (grown-book c.in-Ok.book c.args.workers c.args.board.entries c.work_book.result.entries c.in-Ok.ensures.book.0 c.in-Ok.ensures.book.1 c.work_book.ensures.grows)
    c.requires.opened c.settle.ensures.closed c.settle.ensures.same

pub returns-in-Ok-clause-stopped : goal.returns-in-Ok-clause-stopped
returns-in-Ok-clause-stopped g c =
    settled-stopped c.args.workers c.args.board.input c.args.board.entries c.work_book.result c.settle.result c.settle.ensures.history (c.work_book.ensures.input ∙ c.in-Ok.ensures.book.2)
    (grown-book c.in-Ok.book c.args.workers c.args.board.entries c.work_book.result.entries c.in-Ok.ensures.book.0 c.in-Ok.ensures.book.1 c.work_book.ensures.grows)
    c.settle.ensures.stopped c.settle.ensures.running

pub returns-in-Err-clause-stopped : goal.returns-in-Err-clause-stopped
returns-in-Err-clause-stopped g c = back-stopped c.args.workers c.args.board c.stopped.result.board (c.stopped.ensures ∙ c.in-Err.ensures.err) c.entries-history.ensures.history c.requires.opened
